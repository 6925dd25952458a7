-- What an annotation knows at its nodes, and which nodes stand where: by numbers, without those where false is known.
use Rattle.std.proofs.Common.{◌≡◌, ◌∙◌, inl, inr, ℕ, zero, suc, ◌+◌, ◌<◌, Bool, true, false, not, List, [], ◌∷◌, length, filter, Option, None, Some, refl, sym, ap, subst, arith, IsTrue}
use Rattle.std.specs.Prelude.{◌&&◌, ◌||◌, nat_eq, if◌then◌else◌, IsSomeAnd, slice_get}
use Rattle.std.specs.List.{list_any, AllByRecursion}
use Rattle.std.proofs.lemmas.Bool.{false≢true, and_parts, and_from, eqb-true, eq-eqb, or_left, or_right}
use Rattle.std.proofs.lemmas.Option.{same_Some}
use Rattle.nwa_base.specs.Members.{Member}
use Rattle.lin_rows.specs.Points.{point_of}
use Rattle.letter_acts.specs.Meaning.{Situation}
use Rattle.letter_acts.specs.Invariant.{Graph, IsGraph, IsPlaceOf, HasBody, HaveBodies}
use Rattle.letter_acts.proofs.ListLemmas.{all_member, all_from_members}
use Rattle.triple_rows.specs.declared.triples.Scoped.{Scoped}
use Rattle.triple_rows.specs.Predicates.{formula_of, FormulaHolds}
use Rattle.triple_rows.specs.Triples.{truth_of}
use Rattle.triple_rows.proofs.ListLaws.{within, something_at}
use Rattle.proof_form.specs.Lines as form
use Rattle.proof_form.specs.Annotations.{Content, is_annotation}
use Rattle.proof_names.specs.Naming.{IsPredOf, NamesNode}
use Rattle.proof_names.specs.Items.{Names, pred_at}
use Rattle.proof_names.specs.Outlines.{OutlineNode, Sketch}
use Rattle.proof_check.specs.Steps.{IsNode}
use Rattle.proof_check.specs.Described.{HoldsAt}
use Rattle.explained_proof.specs.KnownRuns.Followed.{IsEntryOf, IsDescribed}
use Rattle.explained_proof.specs.Known.{Known, is_false, nodes_from, is_standing_at, known_of}
use Rattle.explained_proof.specs.Worth.{is_known, LineHolds, PredicateHolds}
use Rattle.explained_proof.proofs.KnownWorth.{nodes_are_known}

-- ---- lists

pub any_member : {X : Type 0} (f : X → Bool) (xs : List X) (x : X) → Member xs x → f x ≡ true → list_any f xs ≡ true
any_member f [] x m h = absurd m
any_member f (y ∷ ys) x (inl e) h = or_left (f y) (list_any f ys) (ap f e ∙ h)
any_member f (y ∷ ys) x (inr m) h = or_right (f y) (list_any f ys) (any_member f ys x m h)

some_member : {X : Type 0} (f : X → Bool) (xs : List X) → list_any f xs ≡ true → (x : X) × Member xs x × (f x ≡ true)
some_member f [] h = absurd (false≢true h)
some_member f (y ∷ ys) h = by (f y) refl (some_member f ys) h
  where
    by : (b : Bool) → f y ≡ b → (list_any f ys ≡ true → (x : _) × Member ys x × (f x ≡ true)) → (b || list_any f ys) ≡ true → (x : _) × Member (y ∷ ys) x × (f x ≡ true)
    by true e r h = (y, inl refl, e)
    by false e r h = let w = r h in (w.0, inr w.1, w.2)

pub filter_member : {X : Type 0} (f : X → Bool) (xs : List X) (x : X) → Member xs x → f x ≡ true → Member (filter f xs) x
filter_member f [] x m h = absurd m
filter_member f (y ∷ ys) x (inl e) h = by (f y) (ap f e ∙ h)
  where
    by : (b : Bool) → b ≡ true → Member (if b then y ∷ filter f ys else filter f ys) x
    by true g = inl e
    by false g = absurd (false≢true g)
filter_member f (y ∷ ys) x (inr m) h = by (f y) (filter_member f ys x m h)
  where
    by : (b : Bool) → Member (filter f ys) x → Member (if b then y ∷ filter f ys else filter f ys) x
    by true r = inr r
    by false r = r

pub member_filter : {X : Type 0} (f : X → Bool) (xs : List X) (x : X) → Member (filter f xs) x → Member xs x × (f x ≡ true)
member_filter f [] x m = absurd m
member_filter f (y ∷ ys) x m = by (f y) refl (member_filter f ys x) m
  where
    by : (b : Bool) → f y ≡ b → (Member (filter f ys) x → Member ys x × (f x ≡ true)) → Member (if b then y ∷ filter f ys else filter f ys) x → Member (y ∷ ys) x × (f x ≡ true)
    by true e r (inl g) = (inl g, sym (ap f g) ∙ e)
    by true e r (inr m) = let w = r m in (inr w.0, w.1)
    by false e r m = let w = r m in (inr w.0, w.1)

-- ---- the numbers of nodes

pub in_nodes : (k : ℕ) (test : ℕ → OutlineNode → Bool) (xs : List OutlineNode) (n : ℕ) (x : OutlineNode) → slice_get xs n ≡ Some x → test (k + n) x ≡ true → is_false x ≡ false → Member (nodes_from k test xs) (k + n)
in_nodes k test [] n x e h f = absurd (cc)
in_nodes k test (y ∷ ys) zero x e h f =
    let one : y ≡ x = same_Some y x e in
    let z : k + 0 ≡ k = omega arith in
    let here : test k y ≡ true = (λ i. test (sym z i) (one i)) ∙ h in
    by (test k y && not (is_false y)) (and_from (test k y) (not (is_false y)) here (ap not (ap is_false one ∙ f)))
  where
    by : (b : Bool) → b ≡ true → Member (if b then k ∷ nodes_from (k + 1) test ys else nodes_from (k + 1) test ys) (k + 0)
    by true g = inl (let z : k ≡ k + 0 = omega arith in z)
    by false g = absurd (false≢true g)
in_nodes k test (y ∷ ys) (suc n) x e h f =
    let z : k + suc n ≡ k + 1 + n = omega arith in
    let later : Member (nodes_from (k + 1) test ys) (k + 1 + n) = in_nodes (k + 1) test ys n x e (ap (λ (m : ℕ). test m x) (sym z) ∙ h) f in
    by (test k y && not (is_false y)) (subst (Member (nodes_from (k + 1) test ys)) (sym z) later)
  where
    by : (b : Bool) → Member (nodes_from (k + 1) test ys) (k + suc n) → Member (if b then k ∷ nodes_from (k + 1) test ys else nodes_from (k + 1) test ys) (k + suc n)
    by true m = inr m
    by false m = m

pub record IsFound (test : ℕ → OutlineNode → Bool) (xs : List OutlineNode) (k m : ℕ) : Type 0 where
  pub index : ℕ
  pub at : m ≡ k + index
  pub node : OutlineNode
  pub stands : slice_get xs index ≡ Some node
  pub passes : test m node ≡ true

found_later : (test : ℕ → OutlineNode → Bool) (y : OutlineNode) (ys : List OutlineNode) (k m : ℕ) → IsFound test ys (k + 1) m → IsFound test (y ∷ ys) k m
found_later test y ys k m f = record { index = suc f.index; at = (let z : m ≡ k + 1 + f.index = f.at in omega arith); node = f.node; stands = f.stands; passes = f.passes }

pub of_nodes : (k : ℕ) (test : ℕ → OutlineNode → Bool) (xs : List OutlineNode) (m : ℕ) → Member (nodes_from k test xs) m → IsFound test xs k m
of_nodes k test [] m h = absurd h
of_nodes k test (y ∷ ys) m h = by (test k y && not (is_false y)) refl (λ g. found_later test y ys k m (of_nodes (k + 1) test ys m g)) h
  where
    by : (b : Bool) → (test k y && not (is_false y)) ≡ b → (Member (nodes_from (k + 1) test ys) m → IsFound test (y ∷ ys) k m) → Member (if b then k ∷ nodes_from (k + 1) test ys else nodes_from (k + 1) test ys) m →
        IsFound test (y ∷ ys) k m
    by true e r (inl g) = record {
      index = 0;
      at = (let z : m ≡ k + 0 = omega arith in z);
      node = y;
      stands = refl;
      passes = subst (λ (j : ℕ). test j y ≡ true) g (and_parts (test k y) (not (is_false y)) e).0;
    }
    by true e r (inr g) = r g
    by false e r g = r g

-- ---- predicates

module _ (g : Graph) (a : Content) where
  abbrev preds : ℕ → Option Scoped
  preds = pred_at g a

  false_holds : (v : Situation) → HoldsAt preds 1 v → ⊥
  false_holds v h = subst (λ (x : Scoped). FormulaHolds (point_of v.values) (formula_of x.pred)) (sym (same_Some (truth_of v.proc false) h.0 h.1)) h.2.1

  held_said : (v : Situation) (k : ℕ) → HoldsAt preds k v → PredicateHolds g a (point_of v.values) k
  held_said v zero h = tt
  held_said v (suc zero) h = false_holds v h
  held_said v (suc (suc j)) h = subst (LineHolds (point_of v.values)) (sym h.1) h.2.1

  -- the other way round of a predicate of the procedure
  said_held : (v : Situation) (k : ℕ) → IsPredOf preds v.proc k → PredicateHolds g a (point_of v.values) k → HoldsAt preds k v
  said_held v zero p h = (truth_of v.proc true, refl, (refl, tt))
  said_held v (suc zero) p h = absurd h
  said_held v (suc (suc j)) p h = by (pred_at g a j) refl p h
    where
      by : (o : Option Scoped) → pred_at g a j ≡ o → IsSomeAnd o (λ s. s.proc ≡ v.proc) → LineHolds (point_of v.values) o → HoldsAt preds (suc (suc j)) v
      by None e p h = absurd p
      by (Some sc) e p h = (sc, e, (sym p, h))

  -- what a node's predicates say
  abbrev AllHold : OutlineNode → Situation → Type 0
  AllHold x v = (k : ℕ) → Member x.preds k → HoldsAt preds k v

  pub not_false : (x : OutlineNode) (v : Situation) → AllHold x v → is_false x ≡ false
  not_false x v h = by (is_false x) refl
    where
      by : (b : Bool) → is_false x ≡ b → b ≡ false
      by true e =
          let w = some_member (λ k. nat_eq k 1) x.preds e in
          let one : w.0 ≡ 1 = eqb-true w.0 1 w.2 in
          absurd (false_holds v (subst (λ (k : ℕ). HoldsAt preds k v) one (h w.0 w.1)))
      by false e = refl

  module _ (s : Sketch) (form_is : IsTrue (is_annotation a)) (names : Names g a s) (graph : IsGraph g) where
    abbrev known : Known
    known = known_of g a s.nodes

    pub known_if : (n : ℕ) (x : OutlineNode) (v : Situation) → IsNode s n x → AllHold x v → is_known known (point_of v.values) n ≡ true
    known_if n x v stands h =
        (nodes_are_known g a s.nodes n x (point_of v.values) form_is stands).1 (all_from_members (PredicateHolds g a (point_of v.values)) x.preds (λ k m. held_said v k (h k m)))

    named : (n : ℕ) (x : OutlineNode) → IsNode s n x → (line : form.Node) × NamesNode g preds a.nodes n line x
    named n x stands =
        let l : n < length s.nodes = within s.nodes n x stands in
        let c : length s.nodes ≡ length a.nodes = names.nodes.count in
        let w = something_at a.nodes n (omega arith) in
        (w.0, names.nodes.related n w.0 x w.1 stands)

    -- the place where the body of a procedure begins is one of its own
    entry_within : (procs : List ℕ) (k : ℕ) (es xs : List (Option ℕ)) (p e : ℕ) → HaveBodies procs k es xs → slice_get es p ≡ Some (Some e) → IsPlaceOf procs (k + p) e
    entry_within procs k [] xs p e h h2 = absurd (cc)
    entry_within procs k (o ∷ es) [] p e h h2 = absurd h
    entry_within procs k (o ∷ es) (x ∷ xs) zero e h h2 =
        let z : k ≡ k + 0 = omega arith in
        subst (λ (m : ℕ). IsPlaceOf procs m e) z (by x (subst (λ (y : Option ℕ). HasBody procs k y x) (same_Some o (Some e) h2) h.0))
      where
        by : (x : Option ℕ) → HasBody procs k (Some e) x → IsPlaceOf procs k e
        by None b = absurd b
        by (Some y) b = b.0
    entry_within procs k (o ∷ es) (x ∷ xs) (suc p) e h h2 =
        let z : suc k + p ≡ k + suc p = omega arith in
        subst (λ (m : ℕ). IsPlaceOf procs m e) z (entry_within procs (suc k) es xs p e h.1 h2)

    pub holds_if : (n : ℕ) (x : OutlineNode) (v : Situation) → IsNode s n x → IsEntryOf g v.proc n x → is_known known (point_of v.values) n ≡ true → AllHold x v
    holds_if n x v stands entry h k m =
        let w = named n x stands in
        let own : IsPlaceOf g.place_procs (0 + v.proc) x.place = entry_within g.place_procs 0 g.entries g.exits v.proc x.place graph.procedures.bodies entry.at in
        let both : Some w.1.proc ≡ Some (0 + v.proc) = sym w.1.exists ∙ own in
        let z : 0 + v.proc ≡ v.proc = omega arith in
        let one : w.1.proc ≡ v.proc = same_Some w.1.proc (0 + v.proc) both ∙ z in
        let all : AllByRecursion (PredicateHolds g a (point_of v.values)) x.preds = (nodes_are_known g a s.nodes n x (point_of v.values) form_is stands).0 h in
        said_held v k (subst (λ (p : ℕ). IsPredOf preds p k) one (all_member (IsPredOf preds w.1.proc) x.preds k m w.1.scoped)) (all_member (PredicateHolds g a (point_of v.values)) x.preds k m all)

    -- where a node describes what is seen, one of those that stand there knows it
    pub stands_known : (n : ℕ) (c : ℕ × Situation) → IsDescribed preds s n c → list_any (is_known known (point_of c.1.values)) (known.standing c.0 n) ≡ true
    stands_known n c d =
        let here : is_standing_at c.0 n d.number d.node ≡ true = and_from (nat_eq d.node.place c.0) (nat_eq d.node.entry n) (eq-eqb d.node.place c.0 (sym d.describes.at)) (eq-eqb d.node.entry n d.entry) in
        let z : 0 + d.number ≡ d.number = omega arith in
        let m : Member (known.standing c.0 n) (0 + d.number) =
        in_nodes 0 (is_standing_at c.0 n) s.nodes d.number d.node d.stands here (not_false d.node c.1 d.describes.holds) in
        any_member (is_known known (point_of c.1.values)) (known.standing c.0 n) d.number (subst (Member (known.standing c.0 n)) z m) (known_if d.number d.node c.1 d.stands d.describes.holds)
