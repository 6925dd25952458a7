-- Along a list of statements and what is left of it typed, what is asserted behind a label is what holds where gotos to it lead.
use Rattle.std.proofs.Common.{◌≡◌, ◌∙◌, ◌⊎◌, inl, inr, ℕ, ◌+◌, ◌<◌, ◌≤◌, Bool, true, false, List, [], ◌∷◌, ◌++◌, map, length, Option, None, Some, refl, sym, ap, ap₂, subst, arith, append_assoc}
use Rattle.std.specs.Prelude.{◌&&◌, ◌||◌, not, nat_eq, nat_lt, if◌then◌else◌}
use Rattle.std.specs.Option.{option_and_then, option_or}
use Rattle.std.specs.List.{list_all}
use Rattle.std.proofs.lemmas.Bool.{false≢true, and_parts, or_from, ltb-true, ltb-false, eqb-true, eq-eqb, ne_eqb}
use Rattle.std.proofs.lemmas.List.Folds.{list_any-append}
use Rattle.boogie_tree.specs.declared.span.Span.{Span}
use Rattle.boogie_tree.specs.declared.tree.Name.{Name}
use Rattle.boogie_tree.specs.declared.tree.Column.{Column}
use Rattle.boogie_tree.specs.Tree as tree
use Rattle.boogie_tree.specs.Tree.{Expression}
use Rattle.typed_tree.specs.TypedTree as typed
use Rattle.typed_tree.specs.TypedTree.{TypedExpression, TypedGuard, TypedInvariant, TypedStatement, TypedBlock, TypedProcedure}
use Rattle.typed_tree.specs.AffineForm.{is_empty}
use Rattle.typed_tree.specs.TypingRules.Counts.{assertions, points, block_assertions, block_points, plain_invariants}
use Rattle.typed_tree.specs.TypingRules.Rules.{Context, is_member, is_guard, is_invariant, own_labels, within, looped, is_statement, is_block}
use Rattle.typed_tree.specs.TypingRules.Shape.{statement_labels, block_labels, counts_from}
use Rattle.boogie_types.specs.Naming.{NamingPlace, each, from_both, named, named_guard, named_invariant, targets_of, label_number, levels, procedure_number, params_named, hidden_arguments, hidden_in, hidden_in_block, hidden_column, put_aside, named_arguments, named_call, label_of, in_loop, in_front, named_statement, named_block}
use Rattle.boogie_types.proofs.ShapeLists.{option_and_then_some, both_some}
use Rattle.boogie_run.specs.BoogiePoints.Points.{Todo, Body, Point, settled, unless_ended, past, found_in, found_block}
use Rattle.boogie_run.specs.BoogiePoints.Actions.{point_behind}
use Rattle.boogie_run.specs.BoogiePlaces.Places.{first_at}
use Rattle.explained_proof.specs.declared.row_expressions.scopes.Position.TheVariants as positions
use Rattle.explained_proof.specs.Clauses.{holding}
use Rattle.explained_proof.specs.Backwards.{Labels, with_number, jump, jumps, passing, passing_all}
use Rattle.explained_proof.specs.Statements as told
use Rattle.explained_proof.specs.Statements.{Setting, left, held, asserted, assertions_behind, is_left, past_hidden_in, explained_block}
use Rattle.explained_proof.specs.ExplainedRuns.Sited.{labels_of, IsAssertedAt, AreAssertedAt, said_behind}
use Rattle.explained_proof.proofs.ExplainedRuns.LoopWalk.{alone_so, one_so, two_so, guarded_so}

-- ---- labels count

-- the number is none of those from c on and below e
abbrev pub Out : ℕ → ℕ → ℕ → Type 0
Out k c e = (k < c) ⊎ (e ≤ k)

abbrev mutual
  -- the labels of a statement, and of a list, count from c on and end before e
  pub CountIn : TypedStatement → ℕ → ℕ → Type 0
  CountIn (typed.If at g y z) c e = (m : ℕ) × Count y c m × Count z m e
  CountIn (typed.While at g is y) c e = Count y c e
  CountIn (typed.Label k) c e = (k ≡ c) × (e ≡ c + 1)
  CountIn s c e = e ≡ c

  pub Count : TypedBlock → ℕ → ℕ → Type 0
  Count typed.Empty c e = e ≡ c
  Count (typed.Then s b) c e = (m : ℕ) × CountIn s c m × Count b m e

mutual
  count_in : (s : TypedStatement) (c : ℕ) (rest : List ℕ) → counts_from c (statement_labels s ++ rest) ≡ true → (m : ℕ) × CountIn s c m × (counts_from m rest ≡ true)
  count_in (typed.If at g y z) c rest h =
      let a = count y c (block_labels z ++ rest) (ap (counts_from c) (sym (append_assoc (block_labels y) (block_labels z) rest)) ∙ h) in
      let b = count z a.0 rest a.2 in
      (b.0, (a.0, a.1, b.1), b.2)
  count_in (typed.While at g is y) c rest h = count y c rest h
  count_in (typed.Label k) c rest h =
      let p = and_parts (nat_eq c k) (counts_from (c + 1) rest) h in
      (c + 1, (sym (eqb-true c k p.0), refl), p.1)
  count_in s c rest h = (c, refl, h)

  pub count : (b : TypedBlock) (c : ℕ) (rest : List ℕ) → counts_from c (block_labels b ++ rest) ≡ true → (m : ℕ) × Count b c m × (counts_from m rest ≡ true)
  count typed.Empty c rest h = (c, refl, h)
  count (typed.Then s b) c rest h =
      let a = count_in s c (block_labels b ++ rest) (ap (counts_from c) (sym (append_assoc (statement_labels s) (block_labels b) rest)) ∙ h) in
      let d = count b a.0 rest a.2 in
      (d.0, (a.0, a.1, d.1), d.2)

same_end : (c e : ℕ) → e ≡ c → c ≤ e
same_end c e h = omega arith

mutual
  grows_in : (s : TypedStatement) (c e : ℕ) → CountIn s c e → c ≤ e
  grows_in (typed.If at g y z) c e h =
      let a : c ≤ h.0 = grows y c h.0 h.1 in
      let b : h.0 ≤ e = grows z h.0 e h.2 in
      omega arith
  grows_in (typed.While at g is y) c e h = grows y c e h
  grows_in (typed.Label k) c e h =
      let d : e ≡ c + 1 = h.1 in
      omega arith
  grows_in s c e h = same_end c e h

  grows : (b : TypedBlock) (c e : ℕ) → Count b c e → c ≤ e
  grows typed.Empty c e h = same_end c e h
  grows (typed.Then s b) c e h =
      let a : c ≤ h.0 = grows_in s c h.0 h.1 in
      let d : h.0 ≤ e = grows b h.0 e h.2 in
      omega arith

out_front : (k c m e : ℕ) → m ≤ e → Out k c e → Out k c m
out_front k c m e h (inl o) = inl o
out_front k c m e h (inr o) = inr (omega arith)

out_rest : (k c m e : ℕ) → c ≤ m → Out k c e → Out k m e
out_rest k c m e h (inl o) = inl (omega arith)
out_rest k c m e h (inr o) = inr o

out_label : (k j c e : ℕ) → (j ≡ c) × (e ≡ c + 1) → Out k c e → j ≡ k → ⊥
out_label k j c e h (inl o) same =
    let a : j ≡ c = h.0 in
    omega arith
out_label k j c e h (inr o) same =
    let a : j ≡ c = h.0 in
    let b : e ≡ c + 1 = h.1 in
    omega arith

either : (k m : ℕ) → (k < m) ⊎ (m ≤ k)
either k m = by (nat_lt k m) refl
  where
    by : (b : Bool) → nat_lt k m ≡ b → (k < m) ⊎ (m ≤ k)
    by true e = inl (ltb-true k m e)
    by false e = inr (ltb-false k m e)

no_room : {A : Type 0} (k c e : ℕ) → e ≡ c → c ≤ k → k < e → A
no_room k c e h low high = absurd (omega arith)

-- ---- labels are found

or_none : (o r : Option (List Todo)) → o ≡ None → option_or o r ≡ r
or_none o r e = ap (λ (a : Option (List Todo)). option_or a r) e

module _ (procs : List TypedProcedure) where
  mutual
    out_in : (k : ℕ) (s : TypedStatement) (b : TypedBlock) (loop : Bool) (id at : ℕ) (under : List Todo) (c e : ℕ) → CountIn s c e → Out k c e → found_in procs k s b loop id at under ≡ None
    out_in k (typed.If span g y z) b loop id at under c e h o =
        let after : List Todo = past procs (typed.If span g y z) b loop id at ∷ under in
        ap₂ (λ (p r : Option (List Todo)). option_or p r)
        (out_of k y false id (at + 1) after c h.0 h.1 (out_front k c h.0 e (grows z h.0 e h.2) o))
        (out_of k z false (id + block_assertions procs y) (at + 1 + block_points procs y) after h.0 e h.2 (out_rest k c h.0 e (grows y c h.0 h.1) o))
    out_in k (typed.While span g is y) b loop id at under c e h o =
        out_of k y true (id + plain_invariants is) (at + length is + 1) (record { rest = typed.Then (typed.While span g is y) b; of_loop = loop; id = id; at = at } ∷ under) c e h o
    out_in k (typed.Label j) b loop id at under c e h o =
        ap (λ (t : Bool). if t then Some (record { rest = b; of_loop = loop; id = id; at = at } ∷ under) else None) (ne_eqb j k (out_label k j c e h o))
    out_in k s b loop id at under c e h o = refl

    out_of : (k : ℕ) (x : TypedBlock) (loop : Bool) (id at : ℕ) (under : List Todo) (c e : ℕ) → Count x c e → Out k c e → found_block procs k x loop id at under ≡ None
    out_of k typed.Empty loop id at under c e h o = refl
    out_of k (typed.Then s b) loop id at under c e h o =
        ap₂ (λ (p r : Option (List Todo)). option_or p r)
        (out_in k s b loop id at under c h.0 h.1 (out_front k c h.0 e (grows b h.0 e h.2) o))
        (out_of k b loop (id + assertions procs s) (at + points procs s) under h.0 e h.2 (out_rest k c h.0 e (grows_in s c h.0 h.1) o))

  mutual
    here_in : (k : ℕ) (s : TypedStatement) (b : TypedBlock) (loop : Bool) (id at : ℕ) (under : List Todo) (c e : ℕ) → CountIn s c e → c ≤ k → k < e → (d : List Todo) × (found_in procs k s b loop id at under ≡ Some d)
    here_in k (typed.If span g y z) b loop id at under c e h low high =
        let after : List Todo = past procs (typed.If span g y z) b loop id at ∷ under in
        let fy : Option (List Todo) = found_block procs k y false id (at + 1) after in
        let fz : Option (List Todo) = found_block procs k z false (id + block_assertions procs y) (at + 1 + block_points procs y) after in
        elim (either k h.0) [
          | inl l ↦ (let a = here_of k y false id (at + 1) after c h.0 h.1 low l in (a.0, ap (λ (o : Option (List Todo)). option_or o fz) a.1))
          | inr l ↦ (let a = here_of k z false (id + block_assertions procs y) (at + 1 + block_points procs y) after h.0 e h.2 l high in
              (a.0, or_none fy fz (out_of k y false id (at + 1) after c h.0 h.1 (inr l)) ∙ a.1))
        ]
    here_in k (typed.While span g is y) b loop id at under c e h low high =
        here_of k y true (id + plain_invariants is) (at + length is + 1) (record { rest = typed.Then (typed.While span g is y) b; of_loop = loop; id = id; at = at } ∷ under) c e h low high
    here_in k (typed.Label j) b loop id at under c e h low high =
        let first : j ≡ c = h.0 in
        let last : e ≡ c + 1 = h.1 in
        let d : List Todo = record { rest = b; of_loop = loop; id = id; at = at } ∷ under in
        (d, ap (λ (t : Bool). if t then Some d else None) (eq-eqb j k (omega arith)))
    here_in k s b loop id at under c e h low high = no_room k c e h low high

    here_of : (k : ℕ) (x : TypedBlock) (loop : Bool) (id at : ℕ) (under : List Todo) (c e : ℕ) → Count x c e → c ≤ k → k < e → (d : List Todo) × (found_block procs k x loop id at under ≡ Some d)
    here_of k typed.Empty loop id at under c e h low high = no_room k c e h low high
    here_of k (typed.Then s b) loop id at under c e h low high =
        let fs : Option (List Todo) = found_in procs k s b loop id at under in
        let fb : Option (List Todo) = found_block procs k b loop (id + assertions procs s) (at + points procs s) under in
        elim (either k h.0) [
          | inl l ↦ (let a = here_in k s b loop id at under c h.0 h.1 low l in (a.0, ap (λ (o : Option (List Todo)). option_or o fb) a.1))
          | inr l ↦ (let a = here_of k b loop (id + assertions procs s) (at + points procs s) under h.0 e h.2 l high in
              (a.0, or_none fs fb (out_in k s b loop id at under c h.0 h.1 (inr l)) ∙ a.1))
        ]

-- ---- labels that were passed, and those to which gotos behind them lead

number_off : (n k : ℕ) (test : ℕ → Bool) → (n ≡ k → ⊥) → with_number n test k ≡ test k
number_off n k test h = ap (λ (b : Bool). if b then true else test k) (ne_eqb n k h)

-- neither passed nor named
abbrev pub Fresh : ℕ → Labels → Type 0
Fresh k l = (l.passed k ≡ false) × (l.backwards k ≡ false)

jump_fresh : (n k : ℕ) (l : Labels) → Fresh k l → Fresh k (jump n l)
jump_fresh n k l f = by (l.passed n) refl
  where
    by : (b : Bool) → l.passed n ≡ b → Fresh k (if b then record l { backwards = with_number n l.backwards } else l)
    by true e = (f.0, number_off n k l.backwards (λ d. false≢true (sym f.0 ∙ ap l.passed (sym d) ∙ e)) ∙ f.1)
    by false e = f

jumps_fresh : (ns : List ℕ) (k : ℕ) (l : Labels) → Fresh k l → Fresh k (jumps ns l)
jumps_fresh [] k l f = f
jumps_fresh (n ∷ ns) k l f = jumps_fresh ns k (jump n l) (jump_fresh n k l f)

mutual
  fresh_in : (k : ℕ) (s : TypedStatement) (c e : ℕ) (l : Labels) → CountIn s c e → Out k c e → Fresh k l → Fresh k (passing s l)
  fresh_in k (typed.If at g y z) c e l h o f =
      fresh_of k z h.0 e (passing_all y l) h.2 (out_rest k c h.0 e (grows y c h.0 h.1) o) (fresh_of k y c h.0 l h.1 (out_front k c h.0 e (grows z h.0 e h.2) o) f)
  fresh_in k (typed.While at g is y) c e l h o f = fresh_of k y c e l h o f
  fresh_in k (typed.Label j) c e l h o f = (number_off j k l.passed (out_label k j c e h o) ∙ f.0, f.1)
  fresh_in k (typed.Goto at ns) c e l h o f = jumps_fresh ns k l f
  fresh_in k s c e l h o f = f

  fresh_of : (k : ℕ) (x : TypedBlock) (c e : ℕ) (l : Labels) → Count x c e → Out k c e → Fresh k l → Fresh k (passing_all x l)
  fresh_of k typed.Empty c e l h o f = f
  fresh_of k (typed.Then s b) c e l h o f =
      fresh_of k b h.0 e (passing s l) h.2 (out_rest k c h.0 e (grows_in s c h.0 h.1) o) (fresh_in k s c h.0 l h.1 (out_front k c h.0 e (grows b h.0 e h.2) o) f)

-- ---- gotos name labels of their own list or of one around it

jump_keeps : (n k : ℕ) (l : Labels) → (n ≡ k → ⊥) → (jump n l).backwards k ≡ l.backwards k
jump_keeps n k l apart = by (l.passed n)
  where
    by : (b : Bool) → (if b then record l { backwards = with_number n l.backwards } else l).backwards k ≡ l.backwards k
    by true = number_off n k l.backwards apart
    by false = refl

jumps_keep : (ls : List ℕ) (k : ℕ) (ns : List ℕ) (l : Labels) → list_all (λ n. is_member n ls) ns ≡ true → is_member k ls ≡ false → (jumps ns l).backwards k ≡ l.backwards k
jumps_keep ls k [] l h apart = refl
jumps_keep ls k (n ∷ ns) l h apart =
    let p = and_parts (is_member n ls) (list_all (λ m. is_member m ls) ns) h in
    jumps_keep ls k ns (jump n l) p.1 apart ∙ jump_keeps n k l (λ d. false≢true (sym apart ∙ ap (λ (m : ℕ). is_member m ls) (sym d) ∙ p.0))

own_out : (k : ℕ) (b : TypedBlock) (c e : ℕ) → Count b c e → Out k c e → is_member k (own_labels b) ≡ false
own_out k typed.Empty c e h o = refl
own_out k (typed.Then (typed.Label j) b) c e h o =
    or_from (nat_eq k j) (is_member k (own_labels b)) (ne_eqb k j (λ d. out_label k j c h.0 h.1 (out_front k c h.0 e (grows b h.0 e h.2) o) (sym d)))
    (own_out k b h.0 e h.2 (out_rest k c h.0 e (grows_in (typed.Label j) c h.0 h.1) o))
own_out k (typed.Then s b) c e h o = own_out k b h.0 e h.2 (out_rest k c h.0 e (grows_in s c h.0 h.1) o)

none_within : (k : ℕ) (xs ls : List ℕ) → is_member k xs ≡ false → is_member k ls ≡ false → is_member k (xs ++ ls) ≡ false
none_within k xs ls a b = list_any-append (nat_eq k) xs ls ∙ or_from (is_member k xs) (is_member k ls) a b

mutual
  keeps_in : (k : Context) (n : ℕ) (s : TypedStatement) (c e : ℕ) (l : Labels) → is_statement k s ≡ true → CountIn s c e → Out n c e → is_member n k.labels ≡ false → (passing s l).backwards n ≡ l.backwards n
  keeps_in k n (typed.If at g y z) c e l t h o apart =
      let p = and_parts (is_guard k.scope g) (is_block (within k y) y && is_block (within k z) z) t in
      let r = and_parts (is_block (within k y) y) (is_block (within k z) z) p.1 in
      let first : Out n c h.0 = out_front n c h.0 e (grows z h.0 e h.2) o in
      let second : Out n h.0 e = out_rest n c h.0 e (grows y c h.0 h.1) o in
      keeps_of (within k z) n z h.0 e (passing_all y l) r.1 h.2 second (none_within n (own_labels z) k.labels (own_out n z h.0 e h.2 second) apart)
      ∙ keeps_of (within k y) n y c h.0 l r.0 h.1 first (none_within n (own_labels y) k.labels (own_out n y c h.0 h.1 first) apart)
  keeps_in k n (typed.While at g is y) c e l t h o apart =
      let p = and_parts (is_guard k.scope g) (list_all (is_invariant k.scope) is && is_block (within (looped k) y) y) t in
      let r = and_parts (list_all (is_invariant k.scope) is) (is_block (within (looped k) y) y) p.1 in
      keeps_of (within (looped k) y) n y c e l r.1 h o (none_within n (own_labels y) k.labels (own_out n y c e h o) apart)
  keeps_in k n (typed.Goto at ns) c e l t h o apart = jumps_keep k.labels n ns l (and_parts (not (is_empty ns)) (list_all (λ m. is_member m k.labels) ns) t).1 apart
  keeps_in k n s c e l t h o apart = refl

  keeps_of : (k : Context) (n : ℕ) (x : TypedBlock) (c e : ℕ) (l : Labels) → is_block k x ≡ true → Count x c e → Out n c e → is_member n k.labels ≡ false → (passing_all x l).backwards n ≡ l.backwards n
  keeps_of k n typed.Empty c e l t h o apart = refl
  keeps_of k n (typed.Then s b) c e l t h o apart =
      let p = and_parts (is_statement k s) (is_block k b) t in
      keeps_of k n b h.0 e (passing s l) p.1 h.2 (out_rest n c h.0 e (grows_in s c h.0 h.1) o) apart
      ∙ keeps_in k n s c h.0 l p.0 h.1 (out_front n c h.0 e (grows b h.0 e h.2) o) apart

-- ---- what stands behind a label

-- a statement that is no label
abbrev pub has_more : TypedBlock → Bool
has_more typed.Empty = false
has_more (typed.Then (typed.Label j) b) = has_more b
has_more (typed.Then s b) = true

labels_keep : (k : ℕ) (b : TypedBlock) (l : Labels) → has_more b ≡ false → (passing_all b l).backwards k ≡ l.backwards k
labels_keep k typed.Empty l h = refl
labels_keep k (typed.Then (typed.Label j) b) l h = labels_keep k b (record l { passed = with_number j l.passed }) h
labels_keep k (typed.Then s b) l h = absurd (false≢true (sym h))

plus_zero : (n : ℕ) → n + 0 ≡ n
plus_zero n = omega arith

abbrev StandsAt : ℕ → Point → Type 0
StandsAt n p = (p.stage ≡ Body) × (first_at p.todo + p.part ≡ n)

settled_more : (b : TypedBlock) (loop : Bool) (id at : ℕ) (under : List Todo) (after : Point) → has_more b ≡ true → StandsAt at (unless_ended b loop id at under after)
settled_more typed.Empty loop id at under after h = absurd (false≢true h)
settled_more (typed.Then (typed.Label j) b) loop id at under after h = settled_more b loop id at under after h
settled_more (typed.Then s b) loop id at under after h = (refl, plus_zero at)

-- ---- what is asserted behind labels in order

asserted_append : (w : Setting) (P : ℕ → Name × tree.Block → List Expression → Type 0) (ks js : List ℕ) (ss ts us vs : List (Name × tree.Block)) → AreAssertedAt w P ks ss us → AreAssertedAt w P js ts vs →
    AreAssertedAt w P (ks ++ js) (ss ++ ts) (us ++ vs)
asserted_append w P [] js [] ts [] vs h i = i
asserted_append w P (k ∷ ks) js (s ∷ ss) ts (u ∷ us) vs h i = (h.0, asserted_append w P ks js ss ts us vs h.1 i)
asserted_append w P ks js ss ts us vs h i = absurd h

pub asserted_weaker : (w : Setting) (P Q : ℕ → Name × tree.Block → List Expression → Type 0) → ((k : ℕ) (y : Name × tree.Block) (es : List Expression) → P k y es → Q k y es) →
    (ks : List ℕ) (ss us : List (Name × tree.Block)) → AreAssertedAt w P ks ss us → AreAssertedAt w Q ks ss us
asserted_weaker w P Q f [] [] [] h = tt
asserted_weaker w P Q f (k ∷ ks) (s ∷ ss) (u ∷ us) h =
    (record { name = h.0.name; added = h.0.added; rest = h.0.rest; front = h.0.front; so = f k s h.0.added h.0.so }, asserted_weaker w P Q f ks ss us h.1)
asserted_weaker w P Q f ks ss us h = absurd h

-- no assertion is a label
no_label_before : (es : List Expression) (b : tree.Block) → labels_of (told.before (map asserted es) b) ≡ labels_of b
no_label_before [] b = refl
no_label_before (e ∷ es) b = no_label_before es b

or_false : (a : Bool) → (a || false) ≡ a
or_false true = refl
or_false false = refl

own_only : (n : ℕ) (xs ls : List ℕ) → is_member n ls ≡ false → is_member n (xs ++ ls) ≡ true → is_member n xs ≡ true
own_only n xs ls apart h = sym (list_any-append (nat_eq n) xs ls ∙ ap (λ (b : Bool). is_member n xs || b) apart ∙ or_false (is_member n xs)) ∙ h

to_false : (b : Bool) → (b ≡ true → ⊥) → b ≡ false
to_false true h = absurd (h refl)
to_false false h = refl

own_behind : (s : TypedStatement) (x : TypedBlock) (n c m : ℕ) → CountIn s c m → m ≤ n → is_member n (own_labels (typed.Then s x)) ≡ true → is_member n (own_labels x) ≡ true
own_behind (typed.Label j) x n c m h low i =
    sym (ap (λ (b : Bool). b || is_member n (own_labels x)) (ne_eqb n j (λ d. out_label n j c m h (inr low) (sym d)))) ∙ i
own_behind s x n c m h low i = i

-- ---- the walk

module _ (w : Setting) (found : ℕ → Option (List Todo)) where
  abbrev pub spot : ℕ → Point
  spot k = point_behind (found k)

  -- what holds where a label leads, at a point of the body
  abbrev pub IsSaid : ℕ → Name × tree.Block → List Expression → Type 0
  IsSaid k y es = (w.backwards k ≡ true → (spot k).stage ≡ Body) × (es ≡ said_behind w k y (first_at (spot k).todo + (spot k).part))

  -- What is left of a body: its labels, which are found there and nowhere else, may be named by no goto around it but from its own list; and those that were passed.
  pub record Here (x : TypedBlock) (c e : ℕ) (loop : Bool) (id at : ℕ) (under : List Todo) (k : Context) (l : Labels) : Type 0 where
    pub counted : Count x c e
    pub finds : (n : ℕ) → c ≤ n → n < e → found n ≡ found_block w.procs n x loop id at under
    pub kept : is_block k x ≡ true
    pub own : (n : ℕ) → c ≤ n → n < e → is_member n k.labels ≡ true → is_member n (own_labels x) ≡ true
    pub fresh : (n : ℕ) → c ≤ n → Fresh n l
    pub total : (n : ℕ) → c ≤ n → n < e → w.backwards n ≡ true → (passing_all x l).backwards n ≡ true

  abbrev pub Walks : TypedBlock → tree.Block → Type 0
  Walks x b = (c e : ℕ) (loop : Bool) (id at : ℕ) (under : List Todo) (k : Context) (l : Labels) → Here x c e loop id at under k l →
      AreAssertedAt w IsSaid (block_labels x) (labels_of b) (labels_of (explained_block w b (left x at)))

  behind_first : (s : TypedStatement) (x : TypedBlock) (c e : ℕ) (loop : Bool) (id at : ℕ) (under : List Todo) (k : Context) (l : Labels) → (h : Here (typed.Then s x) c e loop id at under k l) →
      Here x h.counted.0 e loop (id + assertions w.procs s) (at + points w.procs s) under k (passing s l)
  behind_first s x c e loop id at under k l h =
      let m : ℕ = h.counted.0 in
      let more : c ≤ m = grows_in s c m h.counted.1 in
      record {
        counted = h.counted.2;
        finds = λ n low high.
            h.finds n (omega (arith, more, low)) high
            ∙ or_none (found_in w.procs n s x loop id at under) (found_block w.procs n x loop (id + assertions w.procs s) (at + points w.procs s) under)
            (out_in w.procs n s x loop id at under c m h.counted.1 (inr low));
        kept = (and_parts (is_statement k s) (is_block k x) h.kept).1;
        own = λ n low high i. own_behind s x n c m h.counted.1 low (h.own n (omega (arith, more, low)) high i);
        fresh = λ n low. fresh_in n s c m l h.counted.1 (inr low) (h.fresh n (omega (arith, more, low)));
        total = λ n low high b. h.total n (omega (arith, more, low)) high b;
      }

  -- a label inside a statement may not be named from around it
  not_outer : (s : TypedStatement) (x : TypedBlock) (c e : ℕ) (loop : Bool) (id at : ℕ) (under : List Todo) (k : Context) (l : Labels) → (h : Here (typed.Then s x) c e loop id at under k l) →
      own_labels (typed.Then s x) ≡ own_labels x → (n : ℕ) → c ≤ n → n < h.counted.0 → is_member n k.labels ≡ false
  not_outer s x c e loop id at under k l h same n low high =
      let m : ℕ = h.counted.0 in
      let more : m ≤ e = grows x m e h.counted.2 in
      to_false (is_member n k.labels)
      (λ i. false≢true (sym (own_out n x m e h.counted.2 (inl high)) ∙ ap (is_member n) (sym same) ∙ h.own n low (omega (arith, more, high)) i))

  then_here : (span : Span) (g : TypedGuard) (y z x : TypedBlock) (c e : ℕ) (loop : Bool) (id at : ℕ) (under : List Todo) (k : Context) (l : Labels) →
      (h : Here (typed.Then (typed.If span g y z) x) c e loop id at under k l) →
      Here y c h.counted.1.0 false id (at + 1) (past w.procs (typed.If span g y z) x loop id at ∷ under) (within k y) l
  then_here span g y z x c e loop id at under k l h =
      let s : TypedStatement = typed.If span g y z in
      let m : ℕ = h.counted.0 in
      let i : ℕ = h.counted.1.0 in
      let after : List Todo = past w.procs s x loop id at ∷ under in
      let inner : i ≤ m = grows z i m h.counted.1.2 in
      let outer : m ≤ e = grows x m e h.counted.2 in
      let kept = and_parts (is_statement k s) (is_block k x) h.kept in
      let both = and_parts (is_guard k.scope g) (is_block (within k y) y && is_block (within k z) z) kept.0 in
      let each = and_parts (is_block (within k y) y) (is_block (within k z) z) both.1 in
      let apart : (n : ℕ) → c ≤ n → n < i → is_member n k.labels ≡ false = (λ n low high. not_outer s x c e loop id at under k l h refl n low (omega (arith, inner, high))) in
      record {
        counted = h.counted.1.1;
        finds = λ n low high. then_finds n low high;
        kept = each.0;
        own = λ n low high j. own_only n (own_labels y) k.labels (apart n low high) j;
        fresh = h.fresh;
        total = λ n low high b.
            sym (keeps_of k n x m e (passing_all z (passing_all y l)) kept.1 h.counted.2 (inl (omega (arith, inner, high))) (apart n low high)
            ∙ keeps_of (within k z) n z i m (passing_all y l) each.1 h.counted.1.2 (inl high) (none_within n (own_labels z) k.labels (own_out n z i m h.counted.1.2 (inl high)) (apart n low high)))
            ∙ h.total n low (omega (arith, inner, outer, high)) b;
      }
    where
      then_finds : (n : ℕ) → c ≤ n → n < h.counted.1.0 → found n ≡ found_block w.procs n y false id (at + 1) (past w.procs (typed.If span g y z) x loop id at ∷ under)
      then_finds n low high =
          let s : TypedStatement = typed.If span g y z in
          let after : List Todo = past w.procs s x loop id at ∷ under in
          let inner : h.counted.1.0 ≤ h.counted.0 = grows z h.counted.1.0 h.counted.0 h.counted.1.2 in
          let outer : h.counted.0 ≤ e = grows x h.counted.0 e h.counted.2 in
          let d = here_of w.procs n y false id (at + 1) after c h.counted.1.0 h.counted.1.1 low high in
          h.finds n low (omega (arith, inner, outer, high))
          ∙ ap (λ (o : Option (List Todo)). option_or (option_or o (found_block w.procs n z false (id + block_assertions w.procs y) (at + 1 + block_points w.procs y) after))
          (found_block w.procs n x loop (id + assertions w.procs s) (at + points w.procs s) under)) d.1
          ∙ sym d.1

  else_here : (span : Span) (g : TypedGuard) (y z x : TypedBlock) (c e : ℕ) (loop : Bool) (id at : ℕ) (under : List Todo) (k : Context) (l : Labels) →
      (h : Here (typed.Then (typed.If span g y z) x) c e loop id at under k l) →
      Here z h.counted.1.0 h.counted.0 false (id + block_assertions w.procs y) (at + 1 + block_points w.procs y) (past w.procs (typed.If span g y z) x loop id at ∷ under) (within k z) (passing_all y l)
  else_here span g y z x c e loop id at under k l h =
      let s : TypedStatement = typed.If span g y z in
      let m : ℕ = h.counted.0 in
      let i : ℕ = h.counted.1.0 in
      let first : c ≤ i = grows y c i h.counted.1.1 in
      let outer : m ≤ e = grows x m e h.counted.2 in
      let kept = and_parts (is_statement k s) (is_block k x) h.kept in
      let both = and_parts (is_guard k.scope g) (is_block (within k y) y && is_block (within k z) z) kept.0 in
      let each = and_parts (is_block (within k y) y) (is_block (within k z) z) both.1 in
      let apart : (n : ℕ) → i ≤ n → n < m → is_member n k.labels ≡ false = (λ n low high. not_outer s x c e loop id at under k l h refl n (omega (arith, first, low)) high) in
      record {
        counted = h.counted.1.2;
        finds = λ n low high. else_finds n low high;
        kept = each.1;
        own = λ n low high j. own_only n (own_labels z) k.labels (apart n low high) j;
        fresh = λ n low. fresh_of n y c i l h.counted.1.1 (inr low) (h.fresh n (omega (arith, first, low)));
        total = λ n low high b.
            sym (keeps_of k n x m e (passing_all z (passing_all y l)) kept.1 h.counted.2 (inl high) (apart n low high)) ∙ h.total n (omega (arith, first, low)) (omega (arith, outer, high)) b;
      }
    where
      else_finds : (n : ℕ) → h.counted.1.0 ≤ n → n < h.counted.0 →
          found n ≡ found_block w.procs n z false (id + block_assertions w.procs y) (at + 1 + block_points w.procs y) (past w.procs (typed.If span g y z) x loop id at ∷ under)
      else_finds n low high =
          let s : TypedStatement = typed.If span g y z in
          let after : List Todo = past w.procs s x loop id at ∷ under in
          let first : c ≤ h.counted.1.0 = grows y c h.counted.1.0 h.counted.1.1 in
          let outer : h.counted.0 ≤ e = grows x h.counted.0 e h.counted.2 in
          let fz : Option (List Todo) = found_block w.procs n z false (id + block_assertions w.procs y) (at + 1 + block_points w.procs y) after in
          let fx : Option (List Todo) = found_block w.procs n x loop (id + assertions w.procs s) (at + points w.procs s) under in
          let d = here_of w.procs n z false (id + block_assertions w.procs y) (at + 1 + block_points w.procs y) after h.counted.1.0 h.counted.0 h.counted.1.2 low high in
          h.finds n (omega (arith, first, low)) (omega (arith, outer, high))
          ∙ ap (λ (o : Option (List Todo)). option_or (option_or o fz) fx) (out_of w.procs n y false id (at + 1) after c h.counted.1.0 h.counted.1.1 (inr low))
          ∙ ap (λ (o : Option (List Todo)). option_or o fx) d.1
          ∙ sym d.1

  loop_here : (span : Span) (g : TypedGuard) (is : List TypedInvariant) (y x : TypedBlock) (c e : ℕ) (loop : Bool) (id at : ℕ) (under : List Todo) (k : Context) (l : Labels) →
      (h : Here (typed.Then (typed.While span g is y) x) c e loop id at under k l) →
      Here y c h.counted.0 true (id + plain_invariants is) (at + length is + 1) (record { rest = typed.Then (typed.While span g is y) x; of_loop = loop; id = id; at = at } ∷ under) (within (looped k) y) l
  loop_here span g is y x c e loop id at under k l h =
      let s : TypedStatement = typed.While span g is y in
      let m : ℕ = h.counted.0 in
      let outer : m ≤ e = grows x m e h.counted.2 in
      let kept = and_parts (is_statement k s) (is_block k x) h.kept in
      let both = and_parts (is_guard k.scope g) (list_all (is_invariant k.scope) is && is_block (within (looped k) y) y) kept.0 in
      let each = and_parts (list_all (is_invariant k.scope) is) (is_block (within (looped k) y) y) both.1 in
      let apart : (n : ℕ) → c ≤ n → n < m → is_member n k.labels ≡ false = (λ n low high. not_outer s x c e loop id at under k l h refl n low high) in
      record {
        counted = h.counted.1;
        finds = λ n low high. loop_finds n low high;
        kept = each.1;
        own = λ n low high j. own_only n (own_labels y) k.labels (apart n low high) j;
        fresh = h.fresh;
        total = λ n low high b. sym (keeps_of k n x m e (passing_all y l) kept.1 h.counted.2 (inl high) (apart n low high)) ∙ h.total n low (omega (arith, outer, high)) b;
      }
    where
      loop_finds : (n : ℕ) → c ≤ n → n < h.counted.0 →
          found n ≡ found_block w.procs n y true (id + plain_invariants is) (at + length is + 1) (record { rest = typed.Then (typed.While span g is y) x; of_loop = loop; id = id; at = at } ∷ under)
      loop_finds n low high =
          let s : TypedStatement = typed.While span g is y in
          let low_body : List Todo = record { rest = typed.Then s x; of_loop = loop; id = id; at = at } ∷ under in
          let outer : h.counted.0 ≤ e = grows x h.counted.0 e h.counted.2 in
          let d = here_of w.procs n y true (id + plain_invariants is) (at + length is + 1) low_body c h.counted.0 h.counted.1 low high in
          h.finds n low (omega (arith, outer, high))
          ∙ ap (λ (o : Option (List Todo)). option_or o (found_block w.procs n x loop (id + assertions w.procs s) (at + points w.procs s) under)) d.1
          ∙ sym d.1

  -- ---- a label

  label_found : (j : ℕ) (x : TypedBlock) (c e : ℕ) (loop : Bool) (id at : ℕ) (under : List Todo) (k : Context) (l : Labels) → Here (typed.Then (typed.Label j) x) c e loop id at under k l →
      found j ≡ Some (record { rest = x; of_loop = loop; id = id; at = at } ∷ under)
  label_found j x c e loop id at under k l h =
      let first : j ≡ c = h.counted.1.0 in
      let last : h.counted.0 ≡ c + 1 = h.counted.1.1 in
      let more : h.counted.0 ≤ e = grows x h.counted.0 e h.counted.2 in
      let d : List Todo = record { rest = x; of_loop = loop; id = id; at = at } ∷ under in
      let fx : Option (List Todo) = found_block w.procs j x loop (id + assertions w.procs (typed.Label j)) (at + points w.procs (typed.Label j)) under in
      h.finds j (omega arith) (omega arith) ∙ ap (λ (t : Bool). option_or (if t then Some d else None) fx) (eq-eqb j j refl)

  -- a goto behind a label that leads to it stands in the list of the label, or inside
  label_has_more : (j : ℕ) (x : TypedBlock) (c e : ℕ) (loop : Bool) (id at : ℕ) (under : List Todo) (k : Context) (l : Labels) → Here (typed.Then (typed.Label j) x) c e loop id at under k l →
      w.backwards j ≡ true → has_more x ≡ true
  label_has_more j x c e loop id at under k l h b = by (has_more x) refl
    where
      by : (v : Bool) → has_more x ≡ v → v ≡ true
      by true f = refl
      by false f =
          let first : j ≡ c = h.counted.1.0 in
          let last : h.counted.0 ≡ c + 1 = h.counted.1.1 in
          let more : h.counted.0 ≤ e = grows x h.counted.0 e h.counted.2 in
          absurd (false≢true (sym (labels_keep j x (passing (typed.Label j) l) f ∙ (h.fresh j (omega arith)).1) ∙ h.total j (omega arith) (omega arith) b))

  label_said : (j : ℕ) (x : TypedBlock) (c e : ℕ) (loop : Bool) (id at : ℕ) (under : List Todo) (k : Context) (l : Labels) → Here (typed.Then (typed.Label j) x) c e loop id at under k l →
      (y : Name) (b : tree.Block) → IsSaid j (y, b) (assertions_behind w (is_left (tree.Label y) b) (left (typed.Then (typed.Label j) x) at))
  label_said j x c e loop id at under k l h y b = (λ v. (stands v).0, by (w.backwards j) refl (is_left (tree.Label y) b))
    where
      stands : w.backwards j ≡ true → StandsAt at (spot j)
      stands v =
          subst (λ (o : Option (List Todo)). StandsAt at (point_behind o)) (sym (label_found j x c e loop id at under k l h))
          (settled_more x loop id at under (settled under) (label_has_more j x c e loop id at under k l h v))

      by : (v : Bool) → w.backwards j ≡ v → (u : Bool) →
          (if v && not u then held w at else []) ≡ (if v && not u then holding w.procedure positions.Body (first_at (spot j).todo + (spot j).part) else [])
      by false v u = refl
      by true v u = ap (λ (m : ℕ). if not u then holding w.procedure positions.Body m else []) (sym (stands v).1)

  module _ (x : TypedBlock) (b : tree.Block) (rest : Walks x b) where
    abbrev Front : tree.Statement → List TypedStatement → Type 0
    Front s ts = Walks (in_front ts x) (tree.Then s b)

    -- past one typed statement
    past_one : (t : TypedStatement) (c e : ℕ) (loop : Bool) (id at : ℕ) (under : List Todo) (k : Context) (l : Labels) → Here (typed.Then t x) c e loop id at under k l →
        AreAssertedAt w IsSaid (block_labels x) (labels_of b) (labels_of (explained_block w b (left x (at + points w.procs t))))
    past_one t c e loop id at under k l h =
        rest h.counted.0 e loop (id + assertions w.procs t) (at + points w.procs t) under k (passing t l) (behind_first t x c e loop id at under k l h)

    label_walks : (y : Name) (j : ℕ) → Front (tree.Label y) (typed.Label j ∷ [])
    label_walks y j c e loop id n under k l h =
        let es : List Expression = assertions_behind w (is_left (tree.Label y) b) (left (typed.Then (typed.Label j) x) n) in
        let u : tree.Block = explained_block w b (left x (n + 0)) in
        let first : IsAssertedAt w IsSaid j (y, b) (y, told.before (map asserted es) u) =
        record { name = refl; added = es; rest = left x (n + 0); front = refl; so = label_said j x c e loop id n under k l h y b } in
        (first, subst (λ (us : List (Name × tree.Block)). AreAssertedAt w IsSaid (block_labels x) (labels_of b) us) (sym (no_label_before es u)) (past_one (typed.Label j) c e loop id n under k l h))

    aside_walks : (p : NamingPlace) (at : Span) (cs : List Column) (f : ℕ) (args : List TypedExpression) (es : List Expression) (k : ℕ) (ts : List TypedStatement) → put_aside p k at es ≡ Some ts →
        (c e : ℕ) (loop : Bool) (id n : ℕ) (under : List Todo) (con : Context) (l : Labels) → Here (in_front (ts ++ (typed.Call at cs f args ∷ [])) x) c e loop id n under con l →
        AreAssertedAt w IsSaid (block_labels (in_front (ts ++ (typed.Call at cs f args ∷ [])) x)) (labels_of b)
        (labels_of (explained_block w b (told.past w.procs (past_hidden_in (in_front (ts ++ (typed.Call at cs f args ∷ [])) x) n))))
    aside_walks p at cs f args [] k ts is =
        let none : [] ≡ ts = (let s : Some [] ≡ Some ts = is in cc) in
        subst (λ (us : List TypedStatement). (c e : ℕ) (loop : Bool) (id n : ℕ) (under : List Todo) (con : Context) (l : Labels) → Here (in_front (us ++ (typed.Call at cs f args ∷ [])) x) c e loop id n under con l →
        AreAssertedAt w IsSaid (block_labels (in_front (us ++ (typed.Call at cs f args ∷ [])) x)) (labels_of b)
        (labels_of (explained_block w b (told.past w.procs (past_hidden_in (in_front (us ++ (typed.Call at cs f args ∷ [])) x) n))))) none
        (λ c e loop id n under con l h. past_one (typed.Call at cs f args) c e loop id n under con l h)
    aside_walks p at cs f args (y ∷ es) k ts is =
        let a = both_some (λ t us. typed.Assign at (hidden_column p k ∷ []) (t ∷ []) ∷ us) (named p.scope y) (put_aside p (k + 1) at es) ts is in
        let s : TypedStatement = typed.Assign at (hidden_column p k ∷ []) (a.0 ∷ []) in
        let low : TypedBlock = in_front (a.1 ++ (typed.Call at cs f args ∷ [])) x in
        subst (λ (us : List TypedStatement). (c e : ℕ) (loop : Bool) (id n : ℕ) (under : List Todo) (con : Context) (l : Labels) → Here (in_front (us ++ (typed.Call at cs f args ∷ [])) x) c e loop id n under con l →
        AreAssertedAt w IsSaid (block_labels (in_front (us ++ (typed.Call at cs f args ∷ [])) x)) (labels_of b)
        (labels_of (explained_block w b (told.past w.procs (past_hidden_in (in_front (us ++ (typed.Call at cs f args ∷ [])) x) n))))) a.4
        (λ c e loop id n under con l h. aside_walks p at cs f args es (k + 1) a.1 a.3 h.counted.0 e loop (id + 0) (n + 1) under con l (behind_first s low c e loop id n under con l h))

    made_walks : (p : NamingPlace) (at : Span) (xs : List Name) (g : Name) (us : List Expression) (cs : List Column) (f : ℕ) (args : List TypedExpression) (es : List Expression) (k : ℕ) (ts : List TypedStatement) →
        put_aside p k at es ≡ Some ts → Front (tree.Call at xs g us) (ts ++ (typed.Call at cs f args ∷ []))
    made_walks p at xs g us cs f args es k ts is c e loop id n under con l h =
        let y : TypedBlock = in_front (ts ++ (typed.Call at cs f args ∷ [])) x in
        subst (λ (vs : List (Name × tree.Block)). AreAssertedAt w IsSaid (block_labels y) (labels_of b) vs)
        (sym (no_label_before (assertions_behind w false (left y n)) (explained_block w b (told.past w.procs (past_hidden_in y n)))))
        (aside_walks p at cs f args es k ts is c e loop id n under con l h)

    named_call_walks : (p : NamingPlace) (k : ℕ) (at : Span) (xs : List Name) (f : Name) (es : List Expression) (ts : List TypedStatement) → named_call p k at xs f es ≡ Some ts → Front (tree.Call at xs f es) ts
    named_call_walks p k at xs f es ts is =
        let hidden = hidden_arguments (params_named p f) es in
        let a = both_some (λ (front : List TypedStatement) (call : TypedStatement). front ++ (call ∷ [])) (put_aside p k at hidden)
        (option_and_then (λ cs. from_both (typed.Call at cs) (procedure_number p f) (named_arguments p k (params_named p f) es)) (targets_of p.scope xs)) ts is in
        let c = option_and_then_some (λ cs. from_both (typed.Call at cs) (procedure_number p f) (named_arguments p k (params_named p f) es)) (targets_of p.scope xs) a.1 a.3 in
        let d = both_some (typed.Call at c.0) (procedure_number p f) (named_arguments p k (params_named p f) es) a.1 c.2 in
        subst (Front (tree.Call at xs f es)) a.4 (subst (λ (t : TypedStatement). Front (tree.Call at xs f es) (a.0 ++ (t ∷ []))) {x = typed.Call at c.0 d.0 d.1} d.4 (made_walks p at xs f es c.0 d.0 d.1 hidden k a.0 a.2))

    if_walks : (at : Span) (g : tree.Guard) (guard : TypedGuard) (a d : tree.Block) (y z : TypedBlock) → Walks y a → Walks z d → Front (tree.If at g a d) (typed.If at guard y z ∷ [])
    if_walks at g guard a d y z first second c e loop id n under k l h =
        let s : TypedStatement = typed.If at guard y z in
        let after : List Todo = past w.procs s x loop id n ∷ under in
        let us : List (Name × tree.Block) = labels_of (explained_block w a (left y (n + 1))) in
        let vs : List (Name × tree.Block) = labels_of (explained_block w d (left z ((n + 1) + block_points w.procs y))) in
        let ws : List (Name × tree.Block) = labels_of (explained_block w b (left x (n + points w.procs s))) in
        asserted_append w IsSaid (block_labels y ++ block_labels z) (block_labels x) (labels_of a ++ labels_of d) (labels_of b) (us ++ vs) ws
        (asserted_append w IsSaid (block_labels y) (block_labels z) (labels_of a) (labels_of d) us vs
        (first c h.counted.1.0 false id (n + 1) after (within k y) l (then_here at guard y z x c e loop id n under k l h))
        (second h.counted.1.0 h.counted.0 false (id + block_assertions w.procs y) (n + 1 + block_points w.procs y) after (within k z) (passing_all y l) (else_here at guard y z x c e loop id n under k l h)))
        (past_one s c e loop id n under k l h)

    while_walks : (at : Span) (g : tree.Guard) (guard : TypedGuard) (is : List tree.Invariant) (js : List TypedInvariant) (a : tree.Block) (y : TypedBlock) → Walks y a →
        Front (tree.While at g is a) (typed.While at guard js y ∷ [])
    while_walks at g guard is js a y body c e loop id n under k l h =
        let s : TypedStatement = typed.While at guard js y in
        let here : Todo = record { rest = typed.Then s x; of_loop = loop; id = id; at = n } in
        let m : ℕ = n + length js + 1 in
        let us : List (Name × tree.Block) = labels_of (explained_block w a (left y m)) in
        let ws : List (Name × tree.Block) = labels_of (explained_block w b (left x (n + points w.procs s))) in
        asserted_append w IsSaid (block_labels y) (block_labels x) (labels_of a) (labels_of b) us ws
        (body c h.counted.0 true (id + plain_invariants js) m (here ∷ under) (within (looped k) y) l (loop_here at guard js y x c e loop id n under k l h))
        (past_one s c e loop id n under k l h)

  mutual
    pub statement_walks : (p : NamingPlace) (front : Option (List ℕ)) (n : ℕ) (s : tree.Statement) (ts : List TypedStatement) → named_statement p front n s ≡ Some ts →
        (x : TypedBlock) (b : tree.Block) → Walks x b → Walks (in_front ts x) (tree.Then s b)
    statement_walks p front n (tree.Assert at e) ts is x b rest =
        one_so (Front x b rest (tree.Assert at e)) (typed.Assert at) (named p.scope e) ts (λ y f. past_one x b rest (typed.Assert at y)) is
    statement_walks p front n (tree.Assume at e) ts is x b rest =
        one_so (Front x b rest (tree.Assume at e)) (typed.Assume at) (named p.scope e) ts (λ y f. past_one x b rest (typed.Assume at y)) is
    statement_walks p front n (tree.Havoc at xs) ts is x b rest =
        one_so (Front x b rest (tree.Havoc at xs)) (typed.Havoc at) (targets_of p.scope xs) ts (λ cs f. past_one x b rest (typed.Havoc at cs)) is
    statement_walks p front n (tree.Assign at xs es) ts is x b rest =
        alone_so (Front x b rest (tree.Assign at xs es)) (from_both (typed.Assign at) (targets_of p.scope xs) (each (named p.scope) es)) ts
        (λ t f. two_so (Front x b rest (tree.Assign at xs es)) (typed.Assign at) (targets_of p.scope xs) (each (named p.scope) es) t (λ cs us g h. past_one x b rest (typed.Assign at cs us)) f) is
    statement_walks p front n (tree.Call at xs f es) ts is x b rest = named_call_walks x b rest p n at xs f es ts is
    statement_walks p front n (tree.If at g c d) ts is x b rest =
        guarded_so (Front x b rest (tree.If at g c d)) (typed.If at) (named_guard p.scope g) (named_block p None n c) (named_block p None (n + hidden_in_block p c) d) ts
        (λ guard y z e f. if_walks x b rest at g guard c d y z (block_walks p None n c y e) (block_walks p None (n + hidden_in_block p c) d z f)) is
    statement_walks p front n (tree.While at g js c) ts is x b rest =
        guarded_so (Front x b rest (tree.While at g js c)) (typed.While at) (named_guard p.scope g) (each (named_invariant p.scope) js) (named_block (in_loop p front) None n c) ts
        (λ guard ks y e f. while_walks x b rest at g guard js ks c y (block_walks (in_loop p front) None n c y f)) is
    statement_walks p front n (tree.Break at y) ts is x b rest =
        one_so (Front x b rest (tree.Break at y)) (typed.Break at) (levels p y) ts (λ k f. past_one x b rest (typed.Break at k)) is
    statement_walks p front n (tree.Goto at xs) ts is x b rest =
        one_so (Front x b rest (tree.Goto at xs)) (typed.Goto at) (each (label_number p) xs) ts (λ ks f. past_one x b rest (typed.Goto at ks)) is
    statement_walks p front n (tree.Return at) ts is x b rest =
        let same : typed.Return at ∷ [] ≡ ts = (let e : Some (typed.Return at ∷ []) ≡ Some ts = is in cc) in
        subst (Front x b rest (tree.Return at)) same (past_one x b rest (typed.Return at))
    statement_walks p front n (tree.Label y) ts is x b rest =
        one_so (Front x b rest (tree.Label y)) typed.Label (label_number p y) ts (λ k f. label_walks x b rest y k) is

    pub block_walks : (p : NamingPlace) (front : Option (List ℕ)) (n : ℕ) (b : tree.Block) (x : TypedBlock) → named_block p front n b ≡ Some x → Walks x b
    block_walks p front n tree.Empty x is =
        let same : typed.Empty ≡ x = (let e : Some typed.Empty ≡ Some x = is in cc) in
        subst (λ (y : TypedBlock). Walks y tree.Empty) same (λ c e loop id at under k l h. tt)
    block_walks p front n (tree.Then s b) x is =
        let a = both_some in_front (named_statement p front n s) (named_block p (label_of s) (n + hidden_in p s) b) x is in
        subst (λ (y : TypedBlock). Walks y (tree.Then s b)) a.4
        (statement_walks p front n s a.0 a.2 a.1 b (block_walks p (label_of s) (n + hidden_in p s) b a.1 a.3))
