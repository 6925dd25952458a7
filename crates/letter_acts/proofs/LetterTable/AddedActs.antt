-- An act that is added leaves the edges as they were.
use Rattle.std.proofs.Common.{◌≡◌, ◌∙◌, ℕ, List, [], ◌∷◌, ◌++◌, Option, None, Some, refl, sym, append-nil}
use Rattle.std.specs.Prelude.{Result, Ok, Err, OnErr}
use Rattle.letter_acts.specs.LetterTable.Letters.{MarkedAct, Lettered, act_place_from, unless_there, with_act}
use Rattle.letter_acts.specs.LetterTable.Tables.{EdgesStay}

more_by : (acts : List MarkedAct) (a : MarkedAct) (o : Option ℕ) → (more : List MarkedAct) × (unless_there acts a o ≡ acts ++ more)
more_by acts a None = (a ∷ [], refl)
more_by acts a (Some n) = ([], sym (append-nil acts))

-- where the lists of edges are those of before
pub same_edges : (d e : Lettered) (a : MarkedAct) → e.acts ≡ with_act d.acts a → e.insides ≡ d.insides → e.calls ≡ d.calls → e.backs ≡ d.backs → EdgesStay d e
same_edges d e a f g h k = let m = more_by d.acts a (act_place_from 0 d.acts a) in record { more = m.0; acts = f ∙ m.1; insides = g; calls = h; backs = k }

-- what holds in any case is what an error leaves
pub on_err : {T E P : Type 0} (r : Result T E) → P → OnErr r P
on_err (Ok x) p = tt
on_err (Err e) p = p
