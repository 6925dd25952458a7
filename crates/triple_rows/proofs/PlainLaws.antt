-- Systems and the plain trees that they are: the same points meet both, and two systems of one tree have the same refutations.
use Rattle.std.proofs.Common.{◌↔◌, ◌∙◌, ℕ, ℤ, List, [], ◌∷◌, sym, subst, inl, inr}
use Rattle.std.specs.List.{AllByRecursion}
use Rattle.lin_rows.specs.declared.systems.System.{System}
use Rattle.lin_rows.specs.Rows.{Holds}
use Rattle.lin_rows.specs.Systems.{SomeMember, EachHasMember, Meets, groups_of, RelatedInPairs, IsCopy}
use Rattle.lin_rows.proofs.SystemLaws.{meets_open, meets_close, copy_is}
use Rattle.farkas_check.specs.Nodes.{PlainNode}
use Rattle.farkas_check.specs.Refutes.{Refutes}
use Rattle.farkas_check.proofs.AlikeLaws.{refuted_alike}
use Rattle.triple_rows.specs.Systems.{PlainSystem, Groups, Members, plain_system, no_group, one_group, no_member, one_member, PlainMeets, GroupsMet, SomeMet, IsSystem, AreGroups, AreMembers}

mutual
  pub system_met : (point : ℕ → ℤ) (p : PlainSystem) (s : System) → IsSystem p s → Meets point s ↔ PlainMeets point p
  system_met point (plain_system rows groups) s h =
      let g = groups_met point groups (groups_of s) h.1 in (
        λ m. let o = meets_open point s m in (subst (AllByRecursion (Holds point)) h.0 o.0, g.0 o.1),
        λ m. meets_close point s (subst (AllByRecursion (Holds point)) (sym h.0) m.0, g.1 m.1),
      )

  groups_met : (point : ℕ → ℤ) (groups : Groups) (gs : List (List System)) → AreGroups groups gs → EachHasMember (Meets point) gs ↔ GroupsMet point groups
  groups_met point no_group [] h = (λ m. m, λ m. m)
  groups_met point no_group (g ∷ gs) h = absurd h
  groups_met point (one_group members groups) [] h = absurd h
  groups_met point (one_group members groups) (g ∷ gs) h =
      let m = members_met point members g h.0 in
      let r = groups_met point groups gs h.1 in
      (λ k. (m.0 k.0, r.0 k.1), λ k. (m.1 k.0, r.1 k.1))

  members_met : (point : ℕ → ℤ) (members : Members) (ss : List System) → AreMembers members ss → SomeMember (Meets point) ss ↔ SomeMet point members
  members_met point no_member [] h = (λ m. m, λ m. m)
  members_met point no_member (s ∷ ss) h = absurd h
  members_met point (one_member p members) [] h = absurd h
  members_met point (one_member p members) (s ∷ ss) h =
      let e = system_met point p s h.0 in
      let r = members_met point members ss h.1 in
      (λ m. elim m [ inl k ↦ inl (e.0 k) | inr k ↦ inr (r.0 k) ], λ m. elim m [ inl k ↦ inl (e.1 k) | inr k ↦ inr (r.1 k) ])

mutual
  one_copy : (p : PlainSystem) (a b : System) → IsSystem p a → IsSystem p b → IsCopy a b
  one_copy (plain_system rows groups) a b h k = copy_is a b (k.0 ∙ sym h.0) (groups_copied groups (groups_of a) (groups_of b) h.1 k.1)

  groups_copied : (groups : Groups) (gs hs : List (List System)) → AreGroups groups gs → AreGroups groups hs → RelatedInPairs (RelatedInPairs IsCopy) gs hs
  groups_copied no_group [] [] h k = tt
  groups_copied no_group [] (l ∷ ls) h k = absurd k
  groups_copied no_group (g ∷ gs) hs h k = absurd h
  groups_copied (one_group members groups) [] hs h k = absurd h
  groups_copied (one_group members groups) (g ∷ gs) [] h k = absurd k
  groups_copied (one_group members groups) (g ∷ gs) (l ∷ ls) h k = (members_copied members g l h.0 k.0, groups_copied groups gs ls h.1 k.1)

  members_copied : (members : Members) (ss ts : List System) → AreMembers members ss → AreMembers members ts → RelatedInPairs IsCopy ss ts
  members_copied no_member [] [] h k = tt
  members_copied no_member [] (t ∷ ts) h k = absurd k
  members_copied no_member (s ∷ ss) ts h k = absurd h
  members_copied (one_member p members) [] ts h k = absurd h
  members_copied (one_member p members) (s ∷ ss) [] h k = absurd k
  members_copied (one_member p members) (s ∷ ss) (t ∷ ts) h k = (one_copy p s t h.0 k.0, members_copied members ss ts h.1 k.1)

pub refuted_alike_as_plain : (p : PlainSystem) (nodes : List PlainNode) (a b : System) → IsSystem p a → IsSystem p b → Refutes nodes a → Refutes nodes b
refuted_alike_as_plain p nodes a b h k r = (refuted_alike nodes a b (one_copy p a b h k).says_same).0 r
