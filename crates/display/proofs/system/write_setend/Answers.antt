use Rattle.std.proofs.Common.{◌≡◌, Bool, true, false, cond, eqb, [], ◌∷◌, codes, refl}
use Rattle.sink.specs.Items.{text_items}
use Rattle.visitor.proofs.Pieces.{renamed}
use Rattle.lines.specs.Lines.{behind_word}
use Rattle.display.proofs.system.write_setend.Goals as goal

state : (little : Bool) → text_items (cond little (codes " le") (codes " be")) ≡ behind_word (text_items (cond little (codes "le") (codes "be")) ∷ [])
state true = refl
state false = refl

pub returns : goal.returns
returns g c = record { printed = renamed (state (eqb c.args.number 0)) c.write_either.ensures.printed }
