-- Where a run comes to, each entry node of the frame that was entered is followed by one of the nodes that stand there.
use Rattle.std.proofs.Common.{◌≡◌, ◌∙◌, inl, inr, ℕ, ◌+◌, ℤ, Bool, true, false, List, [], ◌∷◌, map, length, filter, Option, None, Some, refl, sym, ap, subst, arith, IsTrue}
use Rattle.std.specs.Prelude.{◌||◌, nat_eq, nat_lt, nat_le, if◌then◌else◌, slice_get}
use Rattle.std.specs.List.{list_any, AllByRecursion}
use Rattle.std.specs.Option.{option_flatten}
use Rattle.std.proofs.lemmas.Bool.{false≢true, or_parts, and_parts, and_from, eqb-true, eq-eqb, ltb-false, leb-true}
use Rattle.nwa_base.specs.Members.{Member}
use Rattle.typed_tree.specs.TypedTree.{TypedProgram}
use Rattle.typed_tree.specs.TypingRules.ValidProgram.{is_valid}
use Rattle.boogie_run.specs.BoogiePoints.Points.{Start}
use Rattle.boogie_run.specs.Configurations.{Config}
use Rattle.lin_rows.specs.Points.{point_of}
use Rattle.letter_acts.specs.Meaning.{Situation}
use Rattle.letter_acts.proofs.ListLemmas.{all_append, all_from_members}
use Rattle.letter_acts.proofs.CheckLemmas.{all_map}
use Rattle.lowered_graph.specs.Lowered.{lowered}
use Rattle.proof_form.specs.Annotations.{Content}
use Rattle.proof_names.specs.Items.{pred_at}
use Rattle.proof_names.specs.Outlines.{OutlineNode, Sketch}
use Rattle.proof_check.specs.Steps.{IsNode}
use Rattle.proof_check.specs.Described.{HoldsAt}
use Rattle.proof_check.specs.Proves.{IsStart}
use Rattle.explained_proof.specs.KnownRuns.Reached.{IsReached, at_entry, seen}
use Rattle.explained_proof.specs.KnownRuns.Followed.{IsProofOf, IsEntryOf, Begins, IsDescribed}
use Rattle.explained_proof.specs.KnownRuns.Laws.{IsEntered}
use Rattle.explained_proof.proofs.KnownRuns.Describing.{starts_are_described}
use Rattle.explained_proof.specs.Known.{preds_in, is_false, is_entered_at}
use Rattle.explained_proof.specs.Explained.{Told, place_of, entered, has_no_predicate, starts, entered_at, called, entries}
use Rattle.explained_proof.specs.Worth.{is_known, IsFollowed}
use Rattle.explained_proof.specs.ExplainedRuns.Laws.{told, place_at}
use Rattle.explained_proof.proofs.ExplainedRuns.Nodes.{filter_member, member_filter, in_nodes, IsFound, of_nodes, not_false, holds_if, stands_known}

-- ---- lists

none_in : {X : Type 0} (xs : List X) (x : X) → nat_lt 0 (length xs) ≡ false → Member xs x → ⊥
none_in [] x l m = m
none_in (y ∷ ys) x l m = let k = ltb-false 0 (length (y ∷ ys)) l in absurd (omega (arith, k))

one_in : {X : Type 0} (xs : List X) (x y : X) → nat_lt 1 (length xs) ≡ false → Member xs x → Member xs y → x ≡ y
one_in [] x y l m n = absurd m
one_in (z ∷ []) x y l (inl a) (inl b) = sym a ∙ b
one_in (z ∷ []) x y l (inl a) (inr b) = absurd b
one_in (z ∷ []) x y l (inr a) n = absurd a
one_in (z ∷ (w ∷ ws)) x y l m n = let k = ltb-false 1 (length (z ∷ (w ∷ ws))) l in absurd (omega (arith, k))

no_members : (xs : List ℕ) → nat_le (length xs) 0 ≡ true → xs ≡ []
no_members [] h = refl
no_members (x ∷ xs) h = let k = leb-true (length (x ∷ xs)) 0 h in absurd (omega (arith, k))

flat_some : (o : Option (Option ℕ)) (n : ℕ) → option_flatten o ≡ Some n → o ≡ Some (Some n)
flat_some None n e = absurd (cc)
flat_some (Some m) n e = ap Some e

-- ---- entry nodes

module _ (t : TypedProgram) (a : Content) (s : Sketch) where
  abbrev d : Told
  d = told t a s

  -- an entry node at a place
  record IsEntryAt (place n : ℕ) : Type 0 where
    node : OutlineNode
    stands : IsNode s n node
    itself : node.entry ≡ n
    at : node.place ≡ place

  entry_at : (place n : ℕ) → Member (d.known.entered place) n → IsEntryAt place n
  entry_at place n m =
      let f : IsFound (is_entered_at place) s.nodes 0 n = of_nodes 0 (is_entered_at place) s.nodes n m in
      let b = and_parts (nat_eq f.node.entry n) (nat_eq f.node.place place) f.passes in
      let z : f.index ≡ n = (let k : n ≡ 0 + f.index = f.at in omega arith) in
      record {
        node = f.node;
        stands = subst (λ (j : ℕ). slice_get s.nodes j ≡ Some f.node) z f.stands;
        itself = eqb-true f.node.entry n b.0;
        at = eqb-true f.node.place place b.1;
      }

  at_entry_place : (place n : ℕ) (x : OutlineNode) → IsNode s n x → x.entry ≡ n → x.place ≡ place → is_false x ≡ false → Member (d.known.entered place) n
  at_entry_place place n x stands itself at open_is =
      let z : 0 + n ≡ n = omega arith in
      let passes : is_entered_at place (0 + n) x ≡ true =
      ap (λ (m : ℕ). is_entered_at place m x) z ∙ and_from (nat_eq x.entry n) (nat_eq x.place place) (eq-eqb x.entry n itself) (eq-eqb x.place place at) in
      subst (Member (d.known.entered place)) z (in_nodes 0 (is_entered_at place) s.nodes n x stands passes open_is)

  -- those at the start
  record IsStartOf (p n : ℕ) : Type 0 where
    entry : p ≡ t.entry
    node : OutlineNode
    stands : IsNode s n node
    start : IsStart n node

  start_of : (p n : ℕ) → Member (starts d p) n → IsStartOf p n
  start_of p n m = by (nat_eq p t.entry) refl m
    where
      by : (b : Bool) → nat_eq p t.entry ≡ b → Member (if b then filter (has_no_predicate d.known) (d.known.entered 0) else []) n → IsStartOf p n
      by true e m =
          let w = member_filter (has_no_predicate d.known) (d.known.entered 0) n m in
          let x : IsEntryAt 0 n = entry_at 0 n w.0 in
          let bare : x.node.preds ≡ [] = no_members x.node.preds (ap (λ (o : Option OutlineNode). nat_le (length (preds_in o)) 0) (sym x.stands) ∙ w.1) in
          record { entry = eqb-true p t.entry e; node = x.node; stands = x.stands; start = record { itself = x.itself; at = x.at; bare = bare } }
      by false e m = absurd m

  is_start : (p n : ℕ) (x : OutlineNode) → p ≡ t.entry → IsNode s n x → IsStart n x → is_false x ≡ false → Member (starts d p) n
  is_start p n x e stands start open_is = by (nat_eq p t.entry) (eq-eqb p t.entry e)
    where
      none : has_no_predicate d.known n ≡ true
      none = ap (λ (o : Option OutlineNode). nat_le (length (preds_in o)) 0) stands ∙ ap (λ (ks : List ℕ). nat_le (length ks) 0) start.bare

      by : (b : Bool) → b ≡ true → Member (if b then filter (has_no_predicate d.known) (d.known.entered 0) else []) n
      by true g = filter_member (has_no_predicate d.known) (d.known.entered 0) n (at_entry_place 0 n x stands start.itself start.at open_is) none
      by false g = absurd (false≢true g)

  -- those where the procedure is called
  record IsCalledAt (p n : ℕ) : Type 0 where
    node : OutlineNode
    stands : IsNode s n node
    entry : IsEntryOf (lowered t) p n node

  called_at : (p n : ℕ) → Member (called d p) n → IsCalledAt p n
  called_at p n m = by (place_of (lowered t).entries p) refl m
    where
      by : (o : Option ℕ) → place_of (lowered t).entries p ≡ o → Member (entered_at d.known o) n → IsCalledAt p n
      by None e m = absurd m
      by (Some place) e m =
          let x : IsEntryAt place n = entry_at place n m in
          record {
            node = x.node;
            stands = x.stands;
            entry = record { itself = x.itself; at = flat_some (slice_get (lowered t).entries p) place e ∙ ap (λ (k : ℕ). Some (Some k)) (sym x.at) };
          }

  is_called : (p n : ℕ) (x : OutlineNode) → IsNode s n x → IsEntryOf (lowered t) p n x → is_false x ≡ false → Member (called d p) n
  is_called p n x stands entry open_is =
      subst (λ (o : Option ℕ). Member (entered_at d.known o) n) (sym (ap option_flatten entry.at)) (at_entry_place x.place n x stands entry.itself refl open_is)

  pub member_called : (p n : ℕ) (x : OutlineNode) (v : Situation) → IsNode s n x → IsEntryOf (lowered t) p n x → ((k : ℕ) → Member x.preds k → HoldsAt (pred_at (lowered t) a) k v) → Member (called d p) n
  member_called p n x v stands entry h = is_called p n x stands entry (not_false (lowered t) a x v h)

  -- ---- where a run comes to

  module _ (valid : IsTrue (is_valid t)) (proof : IsProofOf t a s) (c : Config) (reached : IsReached t c) (behind : c.top.point.stage ≡ Start → ⊥) (e : IsEntered t a s c) where
    abbrev pub now : ℕ → ℤ
    now = point_of (seen t c).1.values

    abbrev pub was : ℕ → ℤ
    was = point_of (at_entry t c e.locals).values

    abbrev Follows : ℕ → Type 0
    Follows n = list_any (is_known d.known now) (d.known.standing (place_at t c) n) ≡ true

    follows : (n : ℕ) → IsDescribed (pred_at (lowered t) a) s n (seen t c) → Follows n
    follows n h = stands_known (lowered t) a s proof.form proof.names proof.graph n (seen t c) h

    start_follows : (n : ℕ) → Member (starts d c.top.proc) n → Follows n
    start_follows n m =
        let x : IsStartOf c.top.proc n = start_of c.top.proc n m in
        follows n (starts_are_described t a s c n x.node valid proof reached x.entry x.stands x.start)

    -- where the frame was entered at the one entry node
    one_follows : (n : ℕ) → Member (called d c.top.proc) n → nat_lt 0 (length (starts d c.top.proc)) ≡ false → nat_lt 1 (length (called d c.top.proc)) ≡ false → Follows n
    one_follows n m no_start one = by e.begins
      where
        open_is : is_false e.node ≡ false
        open_is = not_false (lowered t) a e.node (at_entry t c e.locals) e.held

        by : Begins t c.top.proc e.number e.node → Follows n
        by (inl b) = absurd (none_in (starts d c.top.proc) e.number no_start (is_start c.top.proc e.number e.node b.0 e.stands b.1 open_is))
        by (inr b) =
            let same : e.number ≡ n = one_in (called d c.top.proc) e.number n one (is_called c.top.proc e.number e.node e.stands b open_is) m in
            subst Follows same (follows e.number (e.described e.number e.node e.stands b e.held))

    premise_follows : (n : ℕ) → Member (called d c.top.proc) n → is_known d.known was n ≡ true → Follows n
    premise_follows n m h =
        let x : IsCalledAt c.top.proc n = called_at c.top.proc n m in
        follows n (e.described n x.node x.stands x.entry (holds_if (lowered t) a s proof.form proof.names proof.graph n x.node (at_entry t c e.locals) x.stands x.entry h))

    called_follows : (n : ℕ) → Member (called d c.top.proc) n → (b : Bool) → (nat_lt 0 (length (starts d c.top.proc)) || nat_lt 1 (length (called d c.top.proc))) ≡ b → (b ≡ true → is_known d.known was n ≡ true) → Follows n
    called_follows n m true g h = premise_follows n m (h refl)
    called_follows n m false g h =
        let b = or_parts (nat_lt 0 (length (starts d c.top.proc))) (nat_lt 1 (length (called d c.top.proc))) g in
        one_follows n m b.0 b.1

    pub all_follow : AllByRecursion (IsFollowed d.known (place_at t c) now was) (entries d c.top.proc)
    all_follow =
        let p : ℕ = c.top.proc in
        let b : Bool = nat_lt 0 (length (starts d p)) || nat_lt 1 (length (called d p)) in
        all_append (IsFollowed d.known (place_at t c) now was) (map (entered false) (starts d p)) (map (entered b) (called d p))
        ((all_map (entered false) (IsFollowed d.known (place_at t c) now was) (starts d p)).0
        (all_from_members (λ n. IsFollowed d.known (place_at t c) now was (entered false n)) (starts d p) (λ n m h. start_follows n m)))
        ((all_map (entered b) (IsFollowed d.known (place_at t c) now was) (called d p)).0
        (all_from_members (λ n. IsFollowed d.known (place_at t c) now was (entered b n)) (called d p) (λ n m h. called_follows n m b refl h)))
