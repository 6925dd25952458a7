-- Triples whose systems a whole point meets: Decide refutes none of them.
use Rattle.std.proofs.Common.{◌≡◌, ℕ, ℤ, List, [], ◌∷◌, sym, subst}
use Rattle.std.specs.List.{AllByRecursion}
use Rattle.lin_rows.specs.declared.systems.System.{System}
use Rattle.lin_rows.specs.Rows.{IsRow}
use Rattle.lin_rows.specs.Systems.{Meets, groups_of}
use Rattle.letter_acts.specs.Acts.{Alphabet}
use Rattle.int_decide.specs.Sizes.{AllMembers, AllRows, SystemBelow}
use Rattle.int_decide.specs.WithoutCuts.{IsNotRefuted}
use Rattle.int_decide.specs.Worth.{IsRefuted}
use Rattle.int_decide.proofs.Opening.{AllRows_close}
use Rattle.int_decide.proofs.Worths.{refuted_has_no_point}
use Rattle.triple_rows.specs.declared.triples.Triple.{Triple}
use Rattle.triple_rows.specs.Systems.{PlainSystem, Groups, Members, plain_system, no_group, one_group, no_member, one_member, PlainFits, GroupsFit, MembersFit, IsSystem, AreGroups, AreMembers}
use Rattle.triple_rows.specs.Triples.{system_of}
use Rattle.hoare_check.specs.Decided.{RefutesUncut}
use Rattle.triple_rows.specs.Cuts.{columns_of}

-- ---- the rows of a system whose numbers fit are rows

mutual
  pub rows_fit : (p : PlainSystem) (s : System) → PlainFits p → IsSystem p s → AllRows IsRow s
  rows_fit (plain_system rows groups) s f h =
      AllRows_close IsRow s (subst (AllByRecursion IsRow) (sym h.0) f.0, groups_fit groups (groups_of s) f.1 h.1)

  groups_fit : (groups : Groups) (gs : List (List System)) → GroupsFit groups → AreGroups groups gs → AllMembers (AllRows IsRow) gs
  groups_fit no_group [] f h = tt
  groups_fit no_group (g ∷ gs) f h = absurd h
  groups_fit (one_group members groups) [] f h = absurd h
  groups_fit (one_group members groups) (g ∷ gs) f h = (members_fit members g f.0 h.0, groups_fit groups gs f.1 h.1)

  members_fit : (members : Members) (ss : List System) → MembersFit members → AreMembers members ss → AllByRecursion (AllRows IsRow) ss
  members_fit no_member [] f h = tt
  members_fit no_member (s ∷ ss) f h = absurd h
  members_fit (one_member p members) [] f h = absurd h
  members_fit (one_member p members) (s ∷ ss) f h = (rows_fit p s f.0 h.0, members_fit members ss f.1 h.1)

-- a triple whose system a whole point meets is not refuted
pub met_unrefuted : (al : Alphabet) (triple : Triple) (s : System) (n : ℕ) → n ≡ columns_of al triple → PlainFits (system_of al triple) → IsSystem (system_of al triple) s →
    SystemBelow n s → (point : ℕ → ℤ) → Meets point s → RefutesUncut al triple → ⊥
met_unrefuted al triple s n e f h b point m r =
    let k = r.refuted s h in
    refuted_has_no_point (columns_of al triple) 0 s point (rows_fit (system_of al triple) s f h) (subst (λ (c : ℕ). SystemBelow c s) e b)
    (subst IsRefuted (sym k.refuted) tt) m

-- nor is one whose system Decide does not refute without cuts
pub uncut_unrefuted : (al : Alphabet) (triple : Triple) (s : System) (n : ℕ) → n ≡ columns_of al triple → IsSystem (system_of al triple) s → IsNotRefuted n s → RefutesUncut al triple → ⊥
uncut_unrefuted al triple s n e h u r =
    let k = r.refuted s h in
    subst (λ (c : ℕ). IsNotRefuted c s) e u (subst IsRefuted (sym k.refuted) tt) k.numbers
