-- What a buffer holds. Assumes nothing.
use Rattle.std.specs.Prelude.{ℕ, List, [], take, Some, None, Option}
use Rattle.armv7.specs.Faults.{Refusal}
use Rattle.sink.specs.Items.{Item, bytes}
use Rattle.buffer.specs.declared.InstructionTextBuffer.{InstructionTextBuffer}

-- all of its bytes
abbrev pub memory_of : InstructionTextBuffer → List ℕ
memory_of b = b.content

-- those that are its text
abbrev pub text_of : InstructionTextBuffer → List ℕ
text_of b = take b.len b.content

-- the text of a line, and none of one that is refused
abbrev pub formatted : Option Refusal → List Item → List ℕ
formatted None is = bytes is
formatted (Some why) is = []
