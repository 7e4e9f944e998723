-- `text::fields::turn_at` meets its contract.
use mathlib.Core.Path.{◌∙◌}
use Rattle.text.proofs.Cutting.{turn_fresh, turn_plain, turn_quoted, turn_closed}
use Rattle.text.proofs.fields.turn_at.Goals as goal

pub returns-in-Fresh : goal.returns-in-Fresh
returns-in-Fresh c = rw c.in-Fresh.is (c.by_byte.ensures ∙ turn_fresh _)

pub returns-in-Plain : goal.returns-in-Plain
returns-in-Plain c = rw c.in-Plain.is (c.by_byte-in-Plain.ensures ∙ turn_plain _)

pub returns-in-Quoted : goal.returns-in-Quoted
returns-in-Quoted c = rw c.in-Quoted.is (c.by_byte-in-Quoted.ensures ∙ turn_quoted _)

pub returns-in-Closed : goal.returns-in-Closed
returns-in-Closed c = rw c.in-Closed.is (c.by_byte-in-Closed.ensures ∙ turn_closed _)
