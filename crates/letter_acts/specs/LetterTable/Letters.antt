-- Letters by first occurrence: equal acts with equal marks are one letter, and the letters are numbered in the order in which they first occur.
use Rattle.std.specs.Prelude.{ℕ, suc, ℤ, Bool, true, false, not, nat_eq, ◌&&◌, List, [], ◌∷◌, ◌++◌, map, length, Option, None, Some, if◌then◌else◌}
use Rattle.std.specs.Ordering.{int_eq}
use lib.Pointwise.{pointwise}
use Rattle.lin_rows.specs.Rows.{LinearRow}
use Rattle.lin_rows.specs.declared.types.RowKind.{RowKind}
use Rattle.lin_rows.specs.declared.types.RowKind.TheVariants as kinds
use Rattle.nwa_base.specs.declared.letters.Letter.{Letter}
use Rattle.letter_acts.specs.declared.acts.Act.{Act}
use Rattle.letter_acts.specs.Acts.{PlainAct, inside_act, call_act, back_act, letter_of, plain_act, mark_of}

-- ---- acts

-- an act, and whether it is coarse
pub record MarkedAct : Type 0 where
  pub act : PlainAct
  pub coarse : Bool

-- an act that is not coarse
abbrev pub exact_act : PlainAct → MarkedAct
exact_act a = record { act = a; coarse = false }

abbrev pub marked_act : Act → MarkedAct
marked_act a = record { act = plain_act a; coarse = mark_of a }

abbrev pub marked_acts : List Act → List MarkedAct
marked_acts acts = map marked_act acts

-- ---- arcs

-- An edge whose letter has no number yet. A call has its return beside it, since both lead from one place by one act: from the callee's
-- place of return, with the results to these targets, behind the call.
pub data Arc : Type 0 where
  -- from a place, by an inside act, to a place
  inside_arc : ℕ → MarkedAct → ℕ → Arc
  -- from a place, by a call act, to the callee's entry; back from the place of return, to these targets, to a place
  call_arc : ℕ → MarkedAct → ℕ → ℕ → List ℕ → ℕ → Arc

-- ---- equal acts

abbrev pub same_row_kind : RowKind → RowKind → Bool
same_row_kind kinds.Le kinds.Le = true
same_row_kind kinds.Le kinds.Eq = false
same_row_kind kinds.Eq kinds.Le = false
same_row_kind kinds.Eq kinds.Eq = true

abbrev pub same_term : ℕ × ℤ → ℕ × ℤ → Bool
same_term s t = nat_eq s.0 t.0 && int_eq s.1 t.1

abbrev pub same_row : LinearRow → LinearRow → Bool
same_row r s = pointwise same_term r.terms s.terms && (same_row_kind r.kind s.kind && int_eq r.bound s.bound)

abbrev pub same_act : PlainAct → PlainAct → Bool
same_act (inside_act p written helpers rows) (inside_act q writes more others) =
    nat_eq p q && (pointwise nat_eq written writes && (nat_eq helpers more && pointwise same_row rows others))
same_act (inside_act p written helpers rows) (call_act caller callee more others) = false
same_act (inside_act p written helpers rows) (back_act c targets) = false
same_act (call_act p f helpers rows) (inside_act q writes more others) = false
same_act (call_act p f helpers rows) (call_act q g more others) = nat_eq p q && (nat_eq f g && (nat_eq helpers more && pointwise same_row rows others))
same_act (call_act p f helpers rows) (back_act c targets) = false
same_act (back_act c targets) (inside_act q writes more others) = false
same_act (back_act c targets) (call_act caller callee more others) = false
same_act (back_act c targets) (back_act d others) = nat_eq c d && pointwise nat_eq targets others

abbrev pub same_marked : MarkedAct → MarkedAct → Bool
same_marked a b = same_act a.act b.act && (if a.coarse then b.coarse else not b.coarse)

-- ---- numbers of acts

-- the place of an act in a list, counted from n
abbrev pub act_place_from : ℕ → List MarkedAct → MarkedAct → Option ℕ
act_place_from n [] a = None
act_place_from n (b ∷ bs) a = if same_marked b a then Some n else act_place_from (suc n) bs a

abbrev pub or_last : List MarkedAct → Option ℕ → ℕ
or_last acts None = length acts
or_last acts (Some n) = n

-- the number of an act among these, or the next one where it is not there yet
abbrev pub act_number : List MarkedAct → MarkedAct → ℕ
act_number acts a = or_last acts (act_place_from 0 acts a)

abbrev pub unless_there : List MarkedAct → MarkedAct → Option ℕ → List MarkedAct
unless_there acts a None = acts ++ a ∷ []
unless_there acts a (Some n) = acts

-- with the act at the end, where it is not there yet
abbrev pub with_act : List MarkedAct → MarkedAct → List MarkedAct
with_act acts a = unless_there acts a (act_place_from 0 acts a)

-- ---- edges

-- the letters that have a number, and the edges that have a letter
pub record Lettered : Type 0 where
  pub acts : List MarkedAct
  pub insides : List (ℕ × Letter × ℕ)
  pub calls : List (ℕ × Letter × ℕ)
  pub backs : List (ℕ × ℕ × Letter × ℕ)

abbrev pub numbered_letter : List MarkedAct → MarkedAct → Letter
numbered_letter acts a = letter_of (act_number acts a) a.act

-- One more edge, or a call with its return. A return's letter comes behind that of its call, which it names.
abbrev pub with_arc : Lettered → Arc → Lettered
with_arc d (inside_arc q a e) = record d { acts = with_act d.acts a; insides = d.insides ++ (q, numbered_letter d.acts a, e) ∷ [] }
with_arc d (call_arc q a e x targets k) =
    let called : List MarkedAct = with_act d.acts a in
    let back : MarkedAct = exact_act (back_act (act_number d.acts a) targets) in
    record {
      acts = with_act called back;
      insides = d.insides;
      calls = d.calls ++ (q, numbered_letter d.acts a, e) ∷ [];
      backs = d.backs ++ (x, q, numbered_letter called back, k) ∷ [];
    }

abbrev pub with_arcs : Lettered → List Arc → Lettered
with_arcs d [] = d
with_arcs d (a ∷ more) = with_arcs (with_arc d a) more

abbrev pub no_letters : Lettered
no_letters = record { acts = []; insides = []; calls = []; backs = [] }

abbrev pub lettered : List Arc → Lettered
lettered arcs = with_arcs no_letters arcs
