-- Two halves at once: there is a system with the rows and groups of both, and what is known of the halves says what Decide does with it.
use Rattle.std.proofs.Common.{◌≡◌, ◌∙◌, ◌+◌, ◌<◌, ◌^◌, ℕ, ℤ, zero, suc, pos, List, [], ◌∷◌, ◌++◌, map, length, length-append, Option, None, Some, IfSome, refl, sym, ap, subst, arith}
use Rattle.std.specs.declared.vec.Vec.{Vec}
use Rattle.std.specs.declared.alloc.Global.{Global}
use Rattle.lin_rows.specs.declared.systems.System.{System, System-F, out-System, roll-System, out-roll-System}
use Rattle.lin_rows.specs.Rows.{LinearRow, RowsBelow}
use Rattle.lin_rows.specs.Systems.{rows_of, groups_of, members_of, Meets, SaysSame, RelatedInPairs}
use Rattle.lin_rows.proofs.SystemLaws.{members_of-append, same_open}
use Rattle.letter_acts.specs.Acts.{Alphabet}
use Rattle.lin_rows.specs.Combinations.{Contradicts}
use Rattle.lin_rows.specs.Tightening.{tightened}
use Rattle.farkas_check.specs.Nodes.{PlainNode, leaf}
use Rattle.farkas_check.specs.Refutes.{Refutes}
use Rattle.farkas_check.specs.Trees.{leaf_tree}
use Rattle.int_decide.specs.Sizes.{SystemBelow, AllMembers}
use Rattle.int_decide.specs.Worth.{IsRefuted as IsRefutation}
use Rattle.int_decide.specs.WithoutCuts.{IsNotRefuted}
use Rattle.int_decide.specs.Answers.{RefutesWithin}
use Rattle.int_decide.proofs.Opening.{SystemBelow_open, SystemBelow_close}
use Rattle.int_decide.proofs.Worths.{members_append, refuted_has_no_point}
use Rattle.triple_rows.specs.declared.triples.Triple.{Triple}
use Rattle.triple_rows.specs.Cuts.{columns_of}
use Rattle.triple_rows.specs.Halves.{said_before, said_after}
use Rattle.triple_rows.specs.Triples.{Agrees, IsRefuted, system_of}
use Rattle.triple_rows.specs.Systems.{PlainSystem, Groups, Members, plain_system, no_group, one_group, no_member, one_member, PlainFits, IsSystem, AreGroups, AreMembers, both_systems}
use Rattle.triple_rows.proofs.HalfLaws.{system_in_halves}
use Rattle.triple_rows.proofs.DraftLaws.{groups_joined_are, both_fit}
use Rattle.triple_rows.proofs.SaidLaws.{both_met}
use Rattle.triple_rows.proofs.PlainLaws.{system_met}
use Rattle.hoare_check.specs.declared.halves.Half.{Half}
use Rattle.hoare_check.specs.Ties.Counts.{IsCount}
use Rattle.hoare_check.specs.Decided.{RefutesUncut}
use Rattle.hoare_check.specs.Halves.{IsFalseRow, IsHalf, IsJoint, IsDecidedUncut, IsUncutRefutation, MayDecide, MayRefute, MayFind, IsMetInBoth, IsBare}
use Rattle.hoare_check.proofs.FalseRowLaws.{never_refutes}
use Rattle.hoare_check.proofs.UnrefutedLaws.{rows_fit}
use Rattle.hoare_check.proofs.ProvingLaws.{uncut_proves}

-- ---- a system of both

pub joint : (a b : System) → length (rows_of a) < 2 ^ 32 → length (rows_of b) < 2 ^ 32 → length (out-System a).groups.items < 2 ^ 32 → length (out-System b).groups.items < 2 ^ 32 →
    (s : System) × IsJoint a b s
joint a b ra rb ga gb =
    let f : System-F System = out-System a in
    let g : System-F System = out-System b in
    let rs : List LinearRow = f.rows.items ++ g.rows.items in
    let gs : List (Vec System Global) = f.groups.items ++ g.groups.items in
    let few : length rs < 2 ^ 63 = (let e = length-append f.rows.items g.rows.items in omega (arith, e, ra, rb)) in
    let less : length gs < 2 ^ 63 = (let e = length-append f.groups.items g.groups.items in omega (arith, e, ga, gb)) in
    let h : System-F System = record {
      rows = record f.rows { len = length rs; cap = length rs; items = rs; ok = (refl, omega arith); small = few };
      groups = record f.groups { len = length gs; cap = length gs; items = gs; ok = (refl, omega arith); small = less };
    } in (
      roll-System h,
      record {
        rows = ap (λ (x : System-F System). x.rows.items) (out-roll-System h);
        groups = ap (λ (x : System-F System). members_of x.groups.items) (out-roll-System h) ∙ members_of-append f.groups.items g.groups.items;
      },
    )

-- it is the system of both plain systems
pub joint_is_system : (p q : PlainSystem) (a b s : System) → IsSystem p a → IsSystem q b → IsJoint a b s → IsSystem (both_systems p q) s
joint_is_system (plain_system rows groups) (plain_system more_rows more_groups) a b s h k j = (
  j.rows ∙ ap (λ (rs : List LinearRow). rs ++ rows_of b) h.0 ∙ ap (λ (rs : List LinearRow). rows ++ rs) k.0,
  subst (AreGroups _) (sym j.groups) (groups_joined_are groups more_groups (groups_of a) (groups_of b) h.1 k.1),
)

-- ---- copies

mutual
  pub copy_is_system : (p : PlainSystem) (a b : System) → IsSystem p a → SaysSame a b → IsSystem p b
  copy_is_system (plain_system rows groups) a b h same =
      let o = same_open a b same in
      (sym o.0 ∙ h.0, groups_are_copied groups (groups_of a) (groups_of b) h.1 o.1)

  groups_are_copied : (groups : Groups) (gs hs : List (List System)) → AreGroups groups gs → RelatedInPairs (RelatedInPairs SaysSame) gs hs → AreGroups groups hs
  groups_are_copied no_group [] [] h same = tt
  groups_are_copied no_group [] (l ∷ ls) h same = absurd same
  groups_are_copied no_group (g ∷ gs) hs h same = absurd h
  groups_are_copied (one_group members groups) [] hs h same = absurd h
  groups_are_copied (one_group members groups) (g ∷ gs) [] h same = absurd same
  groups_are_copied (one_group members groups) (g ∷ gs) (l ∷ ls) h same =
      (members_are_copied members g l h.0 same.0, groups_are_copied groups gs ls h.1 same.1)

  members_are_copied : (members : Members) (ss ts : List System) → AreMembers members ss → RelatedInPairs SaysSame ss ts → AreMembers members ts
  members_are_copied no_member [] [] h same = tt
  members_are_copied no_member [] (t ∷ ts) h same = absurd same
  members_are_copied no_member (s ∷ ss) ts h same = absurd h
  members_are_copied (one_member p members) [] ts h same = absurd h
  members_are_copied (one_member p members) (s ∷ ss) [] h same = absurd same
  members_are_copied (one_member p members) (s ∷ ss) (t ∷ ts) h same = (copy_is_system p s t h.0 same.0, members_are_copied members ss ts h.1 same.1)

-- ---- two halves

module _ (n : ℕ) (p q : PlainSystem) (first second : Half) (h : IsHalf n p first) (k : IsHalf n q second) where
  halves_joint : (s : System) × IsJoint first.system second.system s
  halves_joint = joint first.system second.system h.small.rows k.small.rows h.small.groups k.small.groups

  halves_fit : PlainFits (both_systems p q)
  halves_fit = (both_fit p q).1 (h.fits, k.fits)

  -- a row that holds nowhere refutes both at once
  pub false_refutes : (place : ℕ) (nodes : List PlainNode) → IsFalseRow (rows_of first.system ++ rows_of second.system) place → nodes ≡ leaf ((place, pos 1) ∷ []) ∷ [] →
      IsUncutRefutation (both_systems p q) nodes
  false_refutes place nodes f e =
      let j = halves_joint in
      let at : IsFalseRow (rows_of j.0) place = subst (λ (rs : List LinearRow). IsFalseRow rs place) (sym j.1.rows) f in
      let r : RefutesWithin 0 j.0 nodes = subst (RefutesWithin 0 j.0) (sym e) (never_refutes j.0 place at.0 at.1) in
      record { fits = halves_fit; system = j.0; is_system = joint_is_system p q first.system second.system j.0 h.is_system k.is_system j.1; refutes = r.refutes; tree = r.tree }

  -- rows that contradict one another refute both at once
  pub leaf_refutes : (parts : List (ℕ × ℤ)) (nodes : List PlainNode) → Contradicts (map tightened (rows_of first.system ++ rows_of second.system)) parts → nodes ≡ leaf parts ∷ [] →
      IsUncutRefutation (both_systems p q) nodes
  leaf_refutes parts nodes f e =
      let j = halves_joint in
      let at : Contradicts (map tightened (rows_of j.0)) parts = subst (λ (rs : List LinearRow). Contradicts (map tightened rs) parts) (sym j.1.rows) f in
      record {
        fits = halves_fit;
        system = j.0;
        is_system = joint_is_system p q first.system second.system j.0 h.is_system k.is_system j.1;
        refutes = subst (λ (ns : List PlainNode). Refutes ns j.0) (sym e) (at, tt);
        tree = record { tree = leaf_tree parts; prefix = sym e; few_cuts = omega arith };
      }

  -- where the first says nothing, what Decide does not refute alone it does not refute
  pub bare_refuses : IsBare first.system → IsNotRefuted n second.system → IsDecidedUncut n (both_systems p q) → ⊥
  bare_refuses b u d =
      let r = d.refuted second.system (joint_is_system p q first.system second.system second.system h.is_system k.is_system (record {
        rows = sym (ap (λ (rs : List LinearRow). rs ++ rows_of second.system) b.0);
        groups = sym (ap (λ (gs : List (List System)). gs ++ groups_of second.system) b.1);
      })) in
      u (subst IsRefutation (sym r.refuted) tt) r.numbers

  joint_below : (s : System) → IsJoint first.system second.system s → SystemBelow n s
  joint_below s j =
      let a = SystemBelow_open n first.system h.small.below in
      let b = SystemBelow_open n second.system k.small.below in
      SystemBelow_close n s (
        subst (RowsBelow n) (sym j.rows) (rows_below_append (rows_of first.system) (rows_of second.system) a.0 b.0),
        subst (AllMembers (SystemBelow n)) (sym j.groups) (members_append (SystemBelow n) (groups_of first.system) (groups_of second.system) a.1 b.1),
      )
    where
      rows_below_append : (xs ys : List LinearRow) → RowsBelow n xs → RowsBelow n ys → RowsBelow n (xs ++ ys)
      rows_below_append [] ys x y = y
      rows_below_append (r ∷ rs) ys x y = (x.0, rows_below_append rs ys x.1 y)

  -- a point that meets both refuses them
  pub met_refuses : IsMetInBoth first.system second.system → IsDecidedUncut n (both_systems p q) → ⊥
  met_refuses m d =
      let j = halves_joint in
      let s = j.0 in
      let is : IsSystem (both_systems p q) s = joint_is_system p q first.system second.system s h.is_system k.is_system j.1 in
      let meets : Meets m.0 s = (system_met m.0 (both_systems p q) s is).1 ((both_met m.0 p q).1 (
        (system_met m.0 p first.system h.is_system).0 m.1,
        (system_met m.0 q second.system k.is_system).0 m.2,
      )) in
      let r = d.refuted s is in
      refuted_has_no_point n 0 s m.0 (rows_fit (both_systems p q) s halves_fit is) (joint_below s j.1) (subst IsRefutation (sym r.refuted) tt) meets

  -- what Decide finds of the system of both
  pub found_of_both : (s : System) (found : Option (List PlainNode)) → IsSystem (both_systems p q) s → MayDecide first.columns s found → MayRefute n (both_systems p q) found
  found_of_both s None is u = λ d. let r = d.refuted s is in subst (λ (m : ℕ). IsNotRefuted m s) h.columns u (subst IsRefutation (sym r.refuted) tt) r.numbers
  found_of_both s (Some nodes) is r = record { fits = halves_fit; system = s; is_system = is; refutes = r.refutes; tree = r.tree }

-- a half that a point meets is not refuted alone
pub met_alone : (n : ℕ) (p : PlainSystem) (half : Half) → IsHalf n p half → (point : ℕ → ℤ) → Meets point half.system → IsNotRefuted n half.system
met_alone n p half h point m = λ r f. refuted_has_no_point n 0 half.system point (rows_fit p half.system h.fits h.is_system) h.small.below r m

-- ---- one half that does not fit

pub first_unfit : (n : ℕ) (p q : PlainSystem) → (PlainFits p → ⊥) → IsDecidedUncut n (both_systems p q) → ⊥
first_unfit n p q u d = u ((both_fit p q).0 d.fits).0

pub second_unfit : (n : ℕ) (p q : PlainSystem) → (PlainFits q → ⊥) → IsDecidedUncut n (both_systems p q) → ⊥
second_unfit n p q u d = u ((both_fit p q).0 d.fits).1

-- ---- the place of a row that holds nowhere

pub false_in_front : (rows more : List LinearRow) (k : ℕ) → IsFalseRow rows k → IsFalseRow (rows ++ more) k
false_in_front [] more k h = absurd (let l = h.0 in omega (arith, l))
false_in_front (r ∷ rs) more zero h = (omega arith, h.1)
false_in_front (r ∷ rs) more (suc k) h = let l = h.0 in let i = false_in_front rs more k (omega (arith, l), h.1) in (let m = i.0 in omega (arith, m), i.1)

pub false_behind : (rows more : List LinearRow) (k m : ℕ) → m ≡ length rows + k → IsFalseRow more k → IsFalseRow (rows ++ more) m
false_behind [] more k m e h = subst (IsFalseRow more) (let z : k ≡ m = omega (arith, e) in z) h
false_behind (r ∷ rs) more k zero e h = absurd (omega (arith, e))
false_behind (r ∷ rs) more k (suc m) e h = let i = false_behind rs more k m (omega (arith, e)) h in (let l = i.0 in omega (arith, l), i.1)

-- a place that is counted in 32 bits, where it has these
pub counted : (n : ℕ) (o : Option ℕ) (P : ℕ → Type 0) → IsCount n o → ((m : ℕ) → m ≡ n → P m) → IfSome o P
counted n None P h f = tt
counted n (Some m) P h f = f m h

-- ---- the triple of two halves

module _ (al : Alphabet) (t : Triple) (agrees : Agrees al t) where
  halves : system_of al t ≡ both_systems (said_before al t) (said_after al t)
  halves = system_in_halves al t agrees

  -- what is decided of the triple is decided of its halves
  pub triple_decided : RefutesUncut al t → IsDecidedUncut (columns_of al t) (both_systems (said_before al t) (said_after al t))
  triple_decided r = record {
    fits = subst PlainFits halves r.fits;
    refuted = λ s is. r.refuted s (subst (λ (p : PlainSystem). IsSystem p s) (sym halves) is);
  }

  -- what is found of the halves is found of the triple
  pub found_of_triple : (found : Option (List PlainNode)) → MayRefute (columns_of al t) (both_systems (said_before al t) (said_after al t)) found → MayFind al t found
  found_of_triple None h = λ r. h (triple_decided r)
  found_of_triple (Some nodes) h =
      let refuted : IsRefuted al t nodes = record {
        fits = subst PlainFits (sym halves) h.fits;
        system = h.system;
        is_system = subst (λ (p : PlainSystem). IsSystem p h.system) (sym halves) h.is_system;
        refutes = h.refutes;
      } in
      (refuted, uncut_proves al t nodes agrees refuted h.tree)

  -- none is found where a half has a number that does not fit
  pub first_missing : (PlainFits (said_before al t) → ⊥) → RefutesUncut al t → ⊥
  first_missing u r = first_unfit (columns_of al t) (said_before al t) (said_after al t) u (triple_decided r)

  pub second_missing : (PlainFits (said_after al t) → ⊥) → RefutesUncut al t → ⊥
  second_missing u r = second_unfit (columns_of al t) (said_before al t) (said_after al t) u (triple_decided r)
