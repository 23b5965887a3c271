-- The law on runs: what a page holds and what its calls were answered, whatever they were. Assumes nothing.
use Rattle.std.specs.Prelude.{◌≡◌, ℕ, suc, ◌-◌, List, [], ◌∷◌, ◌++◌, map, length, take, drop}
use Rattle.std.specs.List.{AllByRecursion}
use Rattle.sink.specs.Items.{Item, byte, bytes, marks_from}
use Rattle.sink.specs.Meaning.{SinkOf, room}
use Rattle.blocks.specs.Bounds.{Bounded}
use Rattle.blocks.specs.Pages.{page, Cut}
use Rattle.armv7.specs.declared.call.Call.{Call}
use Rattle.page.specs.declared.entry.Entry.{Entry}
use Rattle.page.specs.Answers.{Told, lines, fault, told, owed}
use Rattle.page.specs.Spellings.{Spelling, FitsExactly, call_line, call_sheet}

abbrev pub called : Entry → Call
called e = e.call

-- the calls that were accepted, in order
abbrev pub if_accepted : {A : Type 0} → Told → A → A → A
if_accepted (lines n) a b = a
if_accepted (fault why n) a b = b

abbrev pub accepted : List Entry → List Call
accepted [] = []
accepted (e ∷ es) = if_accepted (told e.answer) (e.call ∷ accepted es) (accepted es)

-- the lines of calls one below the other, each with its line break, as items and as bytes
abbrev pub page_items : List (List Item) → List Item
page_items [] = []
page_items (l ∷ ls) = l ++ byte 10 ∷ page_items ls

abbrev pub call_lines : Spelling → List Call → List (List Item)
call_lines s cs = map (call_line s) cs

abbrev pub page_text : Spelling → List Call → List ℕ
page_text s cs = page (map bytes (call_lines s cs))

-- a text is cut into these lines, and into no others
pub record CutsInto (text : List ℕ) (ls : List (List ℕ)) : Type 0 where
  pub cut : Cut text ls
  pub only : (ms : List (List ℕ)) → Cut text ms → ms ≡ ls

-- entries that were called on a page, from its making on one sink to where it has another and so many lines
pub record Run {S : Type 0} (sink : SinkOf S) (s : Spelling) (before : S) (calls : List Call) (es : List Entry) (after : S) (count : ℕ) : Type 0 where
  -- the calls stand as they were, each with an answer
  pub calls_stand : map called es ≡ calls
  -- each answer is what the call was owed at the room that the calls accepted before it had left
  pub answers :
      (earlier later : List Entry) (e : Entry)
      → es ≡ earlier ++ e ∷ later
      → told e.answer ≡ owed s (room (sink.meaning before) - length (page_text s (accepted earlier))) (length (accepted earlier)) (suc (length (accepted earlier))) e.call
  -- one line with its line break for each accepted call, in order, and no more
  pub text : (sink.meaning after).text ≡ (sink.meaning before).text ++ page_text s (accepted es)
  pub lines_counted : count ≡ length (accepted es)
  pub cut : CutsInto (drop (length (sink.meaning before).text) (sink.meaning after).text) (map bytes (call_lines s (accepted es)))
  -- no line break in a line, its length, and its spans closed in it, the last opened first
  pub bounded : AllByRecursion (Bounded 285 130) (call_lines s (accepted es))
  -- the marks from before, then the lines' marks, up to the limit
  pub marks :
      (sink.meaning after).marks
      ≡ take (sink.meaning before).«mark_limit» ((sink.meaning before).marks ++ marks_from (length (sink.meaning before).text) (page_items (call_lines s (accepted es))))
  pub limit_stands : (sink.meaning after).limit ≡ (sink.meaning before).limit
  pub mark_limit_stands : (sink.meaning after).«mark_limit» ≡ (sink.meaning before).«mark_limit»
  -- what else the sink keeps of these lines, each with its line break
  pub rest : sink.kept (page_items (call_lines s (accepted es))) before after
  -- a line fits the block grammar exactly with the sheet of its call, if that has one
  pub sheets : AllByRecursion (λ c. FitsExactly (call_line s c) (call_sheet s c)) (accepted es)
