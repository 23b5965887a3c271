-- The fields of a status register by the manual's bits, and their names. Assumes nothing.
use Rattle.std.specs.Prelude.{ℕ, List, [], ◌∷◌, codes, slice_index_or}
use Rattle.armv7.specs.declared.status.StatusRegMask.{StatusRegMask}
use Rattle.armv7.specs.declared.status.StatusRegMask.TheVariants.{CPSR_C, CPSR_X, CPSR_XC, APSR_G, CPSR_SC, CPSR_SX, CPSR_SXC, APSR_NZCVQ, CPSR_FC, CPSR_FX, CPSR_FXC, APSR_NZCVQG, CPSR_FSC, CPSR_FSX, CPSR_FSXC, SPSR, SPSR_C, SPSR_X, SPSR_XC, SPSR_S, SPSR_SC, SPSR_SX, SPSR_SXC, SPSR_F, SPSR_FC, SPSR_FX, SPSR_FXC, SPSR_FS, SPSR_FSC, SPSR_FSX, SPSR_FSXC}

abbrev pub status_number : StatusRegMask → ℕ
status_number CPSR_C = 1
status_number CPSR_X = 2
status_number CPSR_XC = 3
status_number APSR_G = 4
status_number CPSR_SC = 5
status_number CPSR_SX = 6
status_number CPSR_SXC = 7
status_number APSR_NZCVQ = 8
status_number CPSR_FC = 9
status_number CPSR_FX = 10
status_number CPSR_FXC = 11
status_number APSR_NZCVQG = 12
status_number CPSR_FSC = 13
status_number CPSR_FSX = 14
status_number CPSR_FSXC = 15
status_number SPSR = 16
status_number SPSR_C = 17
status_number SPSR_X = 18
status_number SPSR_XC = 19
status_number SPSR_S = 20
status_number SPSR_SC = 21
status_number SPSR_SX = 22
status_number SPSR_SXC = 23
status_number SPSR_F = 24
status_number SPSR_FC = 25
status_number SPSR_FX = 26
status_number SPSR_FXC = 27
status_number SPSR_FS = 28
status_number SPSR_FSC = 29
status_number SPSR_FSX = 30
status_number SPSR_FSXC = 31

-- the names, by number; no mask is 0
abbrev pub status_names : List (List ℕ)
status_names =
    [] ∷ codes "cpsr_c" ∷ codes "cpsr_x" ∷ codes "cpsr_xc" ∷ codes "apsr_g" ∷ codes "cpsr_sc" ∷ codes "cpsr_sx" ∷ codes "cpsr_sxc" ∷ codes "apsr_nzcvq" ∷ codes "cpsr_fc" ∷ codes "cpsr_fx" ∷ codes "cpsr_fxc" ∷ codes "apsr_nzcvqg" ∷ codes "cpsr_fsc" ∷ codes "cpsr_fsx" ∷ codes "cpsr_fsxc" ∷ codes "spsr" ∷ codes "spsr_c" ∷ codes "spsr_x" ∷ codes "spsr_xc" ∷ codes "spsr_s" ∷ codes "spsr_sc" ∷ codes "spsr_sx" ∷ codes "spsr_sxc" ∷ codes "spsr_f" ∷ codes "spsr_fc" ∷ codes "spsr_fx" ∷ codes "spsr_fxc" ∷ codes "spsr_fs" ∷ codes "spsr_fsc" ∷ codes "spsr_fsx" ∷ codes "spsr_fsxc" ∷ []

abbrev pub status_name : StatusRegMask → List ℕ
status_name m = slice_index_or status_names (status_number m) []
