-- The reader on tokens: a line. Assumes nothing.
use Rattle.std.specs.Prelude.{[], ◌∷◌, Some, None, Ok, codes, Option, Result}
use Rattle.armv7.specs.declared.instruction.Instruction.{Instruction}
use Rattle.misreading.specs.declared.given.Given.TheVariants.{End}
use Rattle.misreading.specs.declared.misread.Expected.TheVariants.{Call as a_call}
use Rattle.notation.specs.Parsing.{Tokens, Parser, Stop, Table, then, givens, before, chosen, via}
use Rattle.armv7.specs.declared.call.Call.{Call}
use Rattle.armv7.specs.declared.call.Call.TheVariants.{Print, Gap}
use Rattle.record.specs.declared.call.Start.{Start}
use Rattle.record.specs.declared.call.Start.TheVariants.{Nothing, Gap as GapStart, Print as PrintStart}
use Rattle.record.specs.Instructions.{instruction}

unfoldable pub starts : Table Start
starts = ([], Nothing) ∷ (codes "#", Nothing) ∷ (codes "gap", GapStart) ∷ (codes "Instruction", PrintStart) ∷ []

-- an instruction that ends the line
abbrev pub whole : Parser Instruction
whole = before instruction (End ∷ [])

abbrev pub call_with : Start → Parser (Option Call)
call_with Nothing ts = Ok (None, ts)
call_with GapStart ts = via (λ _. Some Gap) (givens (End ∷ [])) ts
call_with PrintStart ts = via (λ i. Some (Print i)) whole ts

abbrev pub call : Parser (Option Call)
call ts = then (chosen a_call starts ts) (λ s. call_with s.0 s.1)

-- what a line of these tokens is read as: its call, or where reading stops
abbrev pub reading : Tokens → Result (Option Call) Stop
reading ts = then (call ts) (λ c. Ok c.0)
