-- Bytes as they are shown. Assumes nothing.
use Rattle.std.proofs.Common.{◌≡◌, ℕ, ◌<◌, ◌≤◌, ◌^◌, ◌-◌, ◌&&◌, ◌++◌, false, [], codes, nat_le, sym, ap, ◌∙◌, arith}
use Rattle.std.proofs.lemmas.Bool.{cond-true, cond-false, and_from, le-leb}
use Rattle.std.proofs.lemmas.Fmt.{hex_byte}
use Rattle.std.proofs.lemmas.Str.{encode_ascii}
use Rattle.std.specs.Char.{encode_utf8}
use Rattle.std.specs.Fmt.{digits, padded_integral, format_spec}
use Rattle.misreading.specs.Messages.{shown_byte}

-- a printable byte is shown as it is
pub as_it_is : (b : ℕ) → 32 ≤ b → b ≤ 126 → encode_utf8 b ≡ shown_byte b
as_it_is b low high = encode_ascii b (omega arith) ∙ sym (cond-true _ _ _ (and_from _ _ (le-leb _ _ low) (le-leb _ _ high)))

-- another is shown by its number
pub by_number : (b : ℕ) → b < 256 → (nat_le 32 b && nat_le b 126) ≡ false → codes "\\x" ++ padded_integral (format_spec 32 0 4 2 (2 ^ 64 - 1)) false [] (digits 16 false b) ≡ shown_byte b
by_number b fits other = ap (λ ds. codes "\\x" ++ ds) (hex_byte false b fits) ∙ sym (cond-false _ _ _ other)
