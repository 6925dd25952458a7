-- Drafts: what is added piece by piece is added at once.
use Rattle.std.proofs.Common.{◌≡◌, ◌↔◌, ◌∙◌, List, [], ◌∷◌, ◌++◌, append_assoc, sym, ap, subst}
use Rattle.std.specs.declared.vec.Vec.{Vec}
use Rattle.std.specs.declared.alloc.Global.{Global}
use Rattle.std.specs.List.{AllByRecursion}
use Rattle.std.proofs.lemmas.List.{append-nil}
use Rattle.lin_rows.specs.declared.systems.System.{System}
use Rattle.lin_rows.specs.Rows.{LinearRow, IsRow}
use Rattle.lin_rows.specs.Systems.{rows_of, groups_of, members_of}
use Rattle.lin_rows.proofs.SystemLaws.{members_of-append}
use Rattle.triple_rows.specs.declared.drafts.Draft.{Draft}
use Rattle.triple_rows.specs.Systems.{PlainSystem, Groups, Members, plain_system, no_group, one_group, PlainFits, GroupsFit, IsSystem, AreGroups, AreMembers, groups_joined, both_systems, only_rows, all_systems, one_of}
use Rattle.triple_rows.specs.Ties.Drafts.{Adds, AddsAll}
use Rattle.triple_rows.proofs.ListLaws.{all_joined}

pub groups_joined_are : (a b : Groups) (gs hs : List (List System)) → AreGroups a gs → AreGroups b hs → AreGroups (groups_joined a b) (gs ++ hs)
groups_joined_are no_group b [] hs h k = k
groups_joined_are no_group b (g ∷ gs) hs h k = absurd h
groups_joined_are (one_group ms a) b [] hs h k = absurd h
groups_joined_are (one_group ms a) b (g ∷ gs) hs h k = (h.0, groups_joined_are a b gs hs h.1 k)

pub adds_both : (a b : PlainSystem) (old mid new : Draft) → Adds a old mid → Adds b mid new → Adds (both_systems a b) old new
adds_both (plain_system rows groups) (plain_system more_rows more_groups) old mid new h k = record {
  rows = k.rows ∙ ap (λ (rs : List LinearRow). rs ++ more_rows) h.rows ∙ append_assoc old.rows.items rows more_rows;
  more = h.more ++ k.more;
  groups = k.groups ∙ ap (λ (gs : List (List System)). gs ++ k.more) h.groups ∙ append_assoc (members_of old.groups.items) h.more k.more;
  are_groups = groups_joined_are groups more_groups h.more k.more h.are_groups k.are_groups;
}

pub adds_none : (d : Draft) → Adds (only_rows []) d d
adds_none d = record { rows = sym (append-nil d.rows.items); more = []; groups = sym (append-nil (members_of d.groups.items)); are_groups = tt }

pub adds_group : (members : Members) (systems : Vec System Global) (old new : Draft) → AreMembers members systems.items → new.rows.items ≡ old.rows.items →
    new.groups.items ≡ old.groups.items ++ systems ∷ [] → Adds (one_of members) old new
adds_group members systems old new m e g = record {
  rows = e ∙ sym (append-nil old.rows.items);
  more = systems.items ∷ [];
  groups = ap (λ (gs : List (Vec System Global)). members_of gs) g ∙ members_of-append old.groups.items (systems ∷ []);
  are_groups = (m, tt);
}

-- what was added to an empty draft is its system
pub draft_is : (p : PlainSystem) (old new : Draft) (s : System) → old.rows.items ≡ [] → old.groups.items ≡ [] → Adds p old new →
    rows_of s ≡ new.rows.items → groups_of s ≡ members_of new.groups.items → IsSystem p s
draft_is (plain_system rows groups) old new s er eg h e g = (
  e ∙ h.rows ∙ ap (λ (rs : List LinearRow). rs ++ rows) er,
  subst (AreGroups groups) (sym (g ∙ h.groups ∙ ap (λ (gs : List (Vec System Global)). members_of gs ++ h.more) eg)) h.are_groups,
)

-- ---- numbers that fit

groups_fit : (a b : Groups) → GroupsFit (groups_joined a b) ↔ (GroupsFit a × GroupsFit b)
groups_fit no_group b = (λ h. (tt, h), λ h. h.1)
groups_fit (one_group ms a) b =
    let r = groups_fit a b in
    (λ h. ((h.0, (r.0 h.1).0), (r.0 h.1).1), λ h. (h.0.0, r.1 (h.0.1, h.1)))

pub both_fit : (a b : PlainSystem) → PlainFits (both_systems a b) ↔ (PlainFits a × PlainFits b)
both_fit (plain_system rows groups) (plain_system more_rows more_groups) =
    let r = all_joined IsRow rows more_rows in
    let g = groups_fit groups more_groups in (
      λ h. (((r.0 h.0).0, (g.0 h.1).0), ((r.0 h.0).1, (g.0 h.1).1)),
      λ h. (r.1 (h.0.0, h.1.0), g.1 (h.0.1, h.1.1)),
    )

pub all_fit : (ss : List PlainSystem) → PlainFits (all_systems ss) ↔ AllByRecursion PlainFits ss
all_fit [] = (λ h. tt, λ h. (tt, tt))
all_fit (s ∷ ss) =
    let b = both_fit s (all_systems ss) in
    let r = all_fit ss in
    (λ h. ((b.0 h).0, r.0 (b.0 h).1), λ h. b.1 (h.0, r.1 h.1))

-- ---- one after another

pub adds_all : (ss : List PlainSystem) (old new : Draft) → AddsAll ss old new → Adds (all_systems ss) old new
adds_all [] old new h = subst (Adds (only_rows []) old) h (adds_none old)
adds_all (s ∷ ss) old new h = adds_both s (all_systems ss) old h.0 new h.1 (adds_all ss h.0 new h.2)

pub adds_joined : (ss ts : List PlainSystem) (old mid new : Draft) → AddsAll ss old mid → AddsAll ts mid new → AddsAll (ss ++ ts) old new
adds_joined [] ts old mid new h k = subst (λ (d : Draft). AddsAll ts d new) (sym h) k
adds_joined (s ∷ ss) ts old mid new h k = (h.0, h.1, adds_joined ss ts h.0 mid new h.2 k)
