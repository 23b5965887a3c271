-- The letters of each register bank. Assumes nothing.
use Rattle.std.specs.Prelude.{ℕ, List, codes}
use Rattle.armv7.specs.declared.bank.Bank.{Bank}
use Rattle.armv7.specs.declared.bank.Bank.TheVariants.{Usr, Fiq, Irq, Svc, Abt, Und, Mon, Hyp}

abbrev pub bank_name : Bank → List ℕ
bank_name Usr = codes "usr"
bank_name Fiq = codes "fiq"
bank_name Irq = codes "irq"
bank_name Svc = codes "svc"
bank_name Abt = codes "abt"
bank_name Und = codes "und"
bank_name Mon = codes "mon"
bank_name Hyp = codes "hyp"
