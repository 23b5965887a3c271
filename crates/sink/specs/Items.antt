-- What is handed to a sink: bytes, and the edges of spans. Assumes nothing.
use Rattle.std.specs.Prelude.{ℕ, zero, suc, List, [], ◌∷◌, ◌++◌, map}
use Rattle.sink.specs.declared.sink.Edge.{Edge}
use Rattle.sink.specs.declared.sink.Edge.TheVariants.{Start, End}
use Rattle.sink.specs.declared.sink.Mark.{Mark}
use Rattle.sink.specs.declared.sink.Span.{Span}

pub data Item : Type 0 where
  byte : ℕ → Item
  edge : Edge → Span → Item

abbrev pub text_items : List ℕ → List Item
text_items = map byte

-- items in a span
abbrev pub within : Span → List Item → List Item
within k is = edge Start k ∷ (is ++ edge End k ∷ [])

abbrev pub bytes : List Item → List ℕ
bytes [] = []
bytes (byte b ∷ is) = b ∷ bytes is
bytes (edge e s ∷ is) = bytes is

-- each edge, with the length of the text where it falls, of which n bytes came before
abbrev pub marks_from : ℕ → List Item → List Mark
marks_from n [] = []
marks_from n (byte b ∷ is) = marks_from (suc n) is
marks_from n (edge e s ∷ is) = record { edge = e; span = s; at = n } ∷ marks_from n is

-- the items before the first byte that does not fit into n bytes
abbrev pub fitting : ℕ → List Item → List Item
fitting n [] = []
fitting n (edge e s ∷ is) = edge e s ∷ fitting n is
fitting zero (byte b ∷ is) = []
fitting (suc n) (byte b ∷ is) = byte b ∷ fitting n is
