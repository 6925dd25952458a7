-- Lines: what is read is spelled so, and what is spelled so is read.
use Rattle.std.proofs.Common.{◌≡◌, ℕ, true, List, [], ◌∷◌, ◌++◌, length, codes, Some, None, inl, inr, refl, sym, ap, ◌∙◌, subst, arith, append_assoc}
use Rattle.std.specs.List.{flat_map, list_all}
use Rattle.std.specs.Fmt.{decimal}
use Rattle.std.proofs.lemmas.Bool.{false≢true}
use Rattle.std.proofs.lemmas.List.{append-nil}
use Rattle.std.proofs.lemmas.Option.{some_pair_parts, same_Some}
use Rattle.boogie_tree.specs.Names.{is_spelled}
use Rattle.proof_form.specs.declared.numerals.Numeral.{Numeral}
use Rattle.proof_form.specs.declared.lines.StepLine.{StepLine}
use Rattle.proof_form.specs.declared.lines.StepLine.TheVariants as steps
use Rattle.proof_form.specs.Numerals.{is_numeral, numeral_text}
use Rattle.proof_form.specs.Reading.{after, number_at, word_at, many, more_follow, all_read}
use Rattle.proof_form.specs.Predicates as predicates
use Rattle.proof_form.specs.Predicates.{PredicateNode, is_predicate, predicate_text}
use Rattle.proof_form.specs.PredicateReading.{predicate_of}
use Rattle.proof_form.specs.Refutations as refutations
use Rattle.proof_form.specs.Refutations.{RefutationNode, is_refutation, refutation_text}
use Rattle.proof_form.specs.RefutationReading.{refutation_of}
use Rattle.proof_form.specs.Lines.{Pred, Triple, inside_triple, call_triple, back_triple, Node, spaced, pred_text, triple_text, node_text, step_text, is_pred, is_triple, is_named, is_node, is_step}
use Rattle.proof_form.specs.LineReading.{next_at, pred_front, node_front, pred_of, three_at, inside_of, call_of, back_of, triple_of, numbers_of, node_of, step_made, back_made, step_end_of, back_end_of, step_of}
use Rattle.proof_form.proofs.AfterLaws.{bind_some, after_spells, after_reads}
use Rattle.proof_form.proofs.ListLaws.{each_passes, no_more_texts_alone, which_read, Stops, space_stops, nothing_stops}
use Rattle.proof_form.proofs.ManyLaws.{many_spell, many_read, all_was_read}
use Rattle.proof_form.proofs.PredicateLaws.{predicate_spells, predicate_reads}
use Rattle.proof_form.proofs.RefutationLaws.{refutation_spells, refutation_reads}
use Rattle.proof_form.proofs.RunLaws.{both_hold, number_spells, number_reads, word_spells, procedure_reads}

-- Numbers

pub next_spells : (bs : List ℕ) (n : Numeral) (rest : List ℕ) → next_at bs ≡ Some (n, rest) → bs ≡ spaced n ++ rest
unfolding next_at
next_spells bs n rest h =
    let space = bind_some (after (codes " ") bs) _ (n, rest) h in
    let made = some_pair_parts (number_at space.0).0 n (number_at space.0).1 rest space.2 in
    after_spells (codes " ") bs space.0 space.1 ∙ ap (λ r. 32 ∷ r) (number_spells space.0 ∙ ap (λ r. numeral_text (number_at space.0).0 ++ r) made.1 ∙ ap (λ m. numeral_text m ++ rest) made.0)

pub next_reads : (n : Numeral) (rest : List ℕ) → is_numeral n ≡ true → Stops rest → next_at (spaced n ++ rest) ≡ Some (n, rest)
unfolding next_at
next_reads n rest h stops = ap (λ x. Some x) (number_reads n rest h stops.number)

three_spell : (bs : List ℕ) (a b c : Numeral) (rest : List ℕ) → three_at bs ≡ Some ((a, b, c), rest) → bs ≡ spaced a ++ (spaced b ++ (spaced c ++ rest))
unfolding three_at
three_spell bs a b c rest h =
    let x = bind_some (next_at bs) _ ((a, b, c), rest) h in
    let y = bind_some (next_at x.0.1) _ ((a, b, c), rest) x.2 in
    let z = bind_some (next_at y.0.1) _ ((a, b, c), rest) y.2 in
    let p = some_pair_parts (x.0.0, y.0.0, z.0.0) (a, b, c) z.0.1 rest z.2 in
    let spelled : bs ≡ spaced x.0.0 ++ (spaced y.0.0 ++ (spaced z.0.0 ++ z.0.1)) =
    next_spells bs x.0.0 x.0.1 x.1 ∙ ap (λ r. spaced x.0.0 ++ r) (next_spells x.0.1 y.0.0 y.0.1 y.1 ∙ ap (λ r. spaced y.0.0 ++ r) (next_spells y.0.1 z.0.0 z.0.1 z.1)) in
    spelled ∙ ap (λ r. spaced x.0.0 ++ (spaced y.0.0 ++ (spaced z.0.0 ++ r))) p.1
    ∙ ap (λ (t : Numeral × Numeral × Numeral). spaced t.0 ++ (spaced t.1 ++ (spaced t.2 ++ rest))) p.0

three_read : (a b c : Numeral) (rest : List ℕ) → is_numeral a ≡ true → is_numeral b ≡ true → is_numeral c ≡ true → Stops rest → three_at (spaced a ++ (spaced b ++ (spaced c ++ rest))) ≡ Some ((a, b, c), rest)
unfolding three_at
three_read a b c rest f g h stops =
    rw (next_reads a (spaced b ++ (spaced c ++ rest)) f (space_stops _), next_reads b (spaced c ++ rest) g (space_stops _), next_reads c rest h stops) refl

-- a tree begins with a space
refutation_stops : (ns : List RefutationNode) → is_refutation ns ≡ true → Stops (refutation_text ns)
refutation_stops [] h = absurd (false≢true h)
refutation_stops (refutations.leaf ps ∷ ns) h = space_stops _
refutation_stops (refutations.cut c k ∷ ns) h = space_stops _
refutation_stops (refutations.cases n ∷ ns) h = space_stops _

predicate_stops : (ns : List PredicateNode) → is_predicate ns ≡ true → Stops (predicate_text ns)
predicate_stops [] h = absurd (false≢true h)
predicate_stops (predicates.atom b ts ∷ ns) h = space_stops _
predicate_stops (predicates.and_of n ∷ ns) h = space_stops _
predicate_stops (predicates.or_of n ∷ ns) h = space_stops _

-- Predicates

pub pred_spells : (k : ℕ) (line : List ℕ) (p : Pred) → pred_of k line ≡ Some p → line ≡ pred_text k p
unfolding pred_of
pred_spells k line p h =
    let front = bind_some (after (pred_front k) line) _ p h in
    let word = word_at front.0 in
    let nodes = bind_some (predicate_of word.1) _ p front.2 in
    let spelled : line ≡ pred_front k ++ (word.0 ++ predicate_text nodes.0) =
    after_spells (pred_front k) line front.0 front.1 ∙ ap (λ r. pred_front k ++ r) (word_spells front.0 ∙ ap (λ r. word.0 ++ r) (predicate_spells word.1 nodes.0 nodes.1)) in
    let grouped : pred_front k ++ (word.0 ++ predicate_text nodes.0) ≡ pred_text k (record { proc = word.0; nodes = nodes.0 }) =
    ap (λ r. codes "pred " ++ r) (append_assoc (decimal k) (32 ∷ []) (word.0 ++ predicate_text nodes.0)) in
    spelled ∙ grouped ∙ ap (pred_text k) (same_Some (record { proc = word.0; nodes = nodes.0 }) p nodes.2)

pub pred_reads : (k : ℕ) (p : Pred) → is_pred p ≡ true → pred_of k (pred_text k p) ≡ Some p
unfolding pred_of
pred_reads k p h =
    let both = both_hold (is_spelled p.proc) _ h in
    let grouped : pred_text k p ≡ pred_front k ++ (p.proc ++ predicate_text p.nodes) = ap (λ r. codes "pred " ++ r) (sym (append_assoc (decimal k) (32 ∷ []) (p.proc ++ predicate_text p.nodes))) in
    let front = after_reads (pred_front k) (p.proc ++ predicate_text p.nodes) in
    let stops = predicate_stops p.nodes both.1 in
    let word = procedure_reads p.proc (predicate_text p.nodes) both.0 stops.word in
    let nodes = predicate_reads p.nodes both.1 in
    ap (pred_of k) grouped ∙ rw (front, word, nodes) refl

-- Triples

inside_spells : (bs : List ℕ) (t : Triple) → inside_of bs ≡ Some t → codes "triple in" ++ bs ≡ triple_text t
unfolding inside_of
inside_spells bs t h =
    let x = bind_some (three_at bs) _ t h in
    let ns = bind_some (refutation_of x.0.1) _ t x.2 in
    let e = same_Some (inside_triple x.0.0.0 x.0.0.1 x.0.0.2 ns.0) t ns.2 in
    ap (λ r. codes "triple in" ++ r) (three_spell bs x.0.0.0 x.0.0.1 x.0.0.2 x.0.1 x.1 ∙ ap (λ r. spaced x.0.0.0 ++ (spaced x.0.0.1 ++ (spaced x.0.0.2 ++ r))) (refutation_spells x.0.1 ns.0 ns.1)) ∙ ap triple_text e

call_spells : (bs : List ℕ) (t : Triple) → call_of bs ≡ Some t → codes "triple call" ++ bs ≡ triple_text t
unfolding call_of
call_spells bs t h =
    let x = bind_some (three_at bs) _ t h in
    let ns = bind_some (refutation_of x.0.1) _ t x.2 in
    let e = same_Some (call_triple x.0.0.0 x.0.0.1 x.0.0.2 ns.0) t ns.2 in
    ap (λ r. codes "triple call" ++ r) (three_spell bs x.0.0.0 x.0.0.1 x.0.0.2 x.0.1 x.1 ∙ ap (λ r. spaced x.0.0.0 ++ (spaced x.0.0.1 ++ (spaced x.0.0.2 ++ r))) (refutation_spells x.0.1 ns.0 ns.1)) ∙ ap triple_text e

back_spells : (bs : List ℕ) (t : Triple) → back_of bs ≡ Some t → codes "triple ret" ++ bs ≡ triple_text t
unfolding back_of
back_spells bs t h =
    let a = bind_some (next_at bs) _ t h in
    let x = bind_some (three_at a.0.1) _ t a.2 in
    let ns = bind_some (refutation_of x.0.1) _ t x.2 in
    let e = same_Some (back_triple a.0.0 x.0.0.0 x.0.0.1 x.0.0.2 ns.0) t ns.2 in
    ap (λ r. codes "triple ret" ++ r) (next_spells bs a.0.0 a.0.1 a.1 ∙ ap (λ r. spaced a.0.0 ++ r) (three_spell a.0.1 x.0.0.0 x.0.0.1 x.0.0.2 x.0.1 x.1
    ∙ ap (λ r. spaced x.0.0.0 ++ (spaced x.0.0.1 ++ (spaced x.0.0.2 ++ r))) (refutation_spells x.0.1 ns.0 ns.1))) ∙ ap triple_text e

pub triple_spells : (line : List ℕ) (t : Triple) → triple_of line ≡ Some t → line ≡ triple_text t
unfolding triple_of
triple_spells line t h = elim (which_read (after (codes "triple in") line) inside_of _ t h) [
  | inl e ↦ after_spells (codes "triple in") line e.0 e.1 ∙ inside_spells e.0 t e.2
  | inr h ↦ elim (which_read (after (codes "triple call") line) call_of _ t h) [
    | inl e ↦ after_spells (codes "triple call") line e.0 e.1 ∙ call_spells e.0 t e.2
    | inr h ↦ elim (which_read (after (codes "triple ret") line) back_of None t h) [
      | inl e ↦ after_spells (codes "triple ret") line e.0 e.1 ∙ back_spells e.0 t e.2
      | inr h ↦ absurd (let no : ⊥ = cc in no)
    ]
  ]
]

inside_reads : (a b c : Numeral) (ns : List RefutationNode) → is_triple (inside_triple a b c ns) ≡ true → inside_of (spaced a ++ (spaced b ++ (spaced c ++ refutation_text ns))) ≡ Some (inside_triple a b c ns)
unfolding inside_of
inside_reads a b c ns h =
    let x = both_hold (is_numeral a) _ h in
    let y = both_hold (is_numeral b) _ x.1 in
    let z = both_hold (is_numeral c) _ y.1 in
    rw (three_read a b c (refutation_text ns) x.0 y.0 z.0 (refutation_stops ns z.1), refutation_reads ns z.1) refl

call_reads : (a b c : Numeral) (ns : List RefutationNode) → is_triple (call_triple a b c ns) ≡ true → call_of (spaced a ++ (spaced b ++ (spaced c ++ refutation_text ns))) ≡ Some (call_triple a b c ns)
unfolding call_of
call_reads a b c ns h =
    let x = both_hold (is_numeral a) _ h in
    let y = both_hold (is_numeral b) _ x.1 in
    let z = both_hold (is_numeral c) _ y.1 in
    rw (three_read a b c (refutation_text ns) x.0 y.0 z.0 (refutation_stops ns z.1), refutation_reads ns z.1) refl

back_reads : (d a b c : Numeral) (ns : List RefutationNode) → is_triple (back_triple d a b c ns) ≡ true → back_of (spaced d ++ (spaced a ++ (spaced b ++ (spaced c ++ refutation_text ns)))) ≡ Some (back_triple d a b c ns)
unfolding back_of
back_reads d a b c ns h =
    let w = both_hold (is_numeral d) _ h in
    let x = both_hold (is_numeral a) _ w.1 in
    let y = both_hold (is_numeral b) _ x.1 in
    let z = both_hold (is_numeral c) _ y.1 in
    rw (next_reads d (spaced a ++ (spaced b ++ (spaced c ++ refutation_text ns))) w.0 (space_stops _), three_read a b c (refutation_text ns) x.0 y.0 z.0 (refutation_stops ns z.1), refutation_reads ns z.1) refl

pub triple_reads : (t : Triple) → is_triple t ≡ true → triple_of (triple_text t) ≡ Some t
unfolding triple_of
triple_reads (inside_triple a b c ns) h = inside_reads a b c ns h
triple_reads (call_triple a b c ns) h = call_reads a b c ns h
triple_reads (back_triple d a b c ns) h = back_reads d a b c ns h

-- Nodes

pub numbers_spell : (bs : List ℕ) (ks : List Numeral) → numbers_of bs ≡ Some ks → bs ≡ flat_map spaced ks
unfolding numbers_of
numbers_spell bs ks h =
    let x = bind_some (many next_at more_follow (length bs) bs) all_read ks h in
    let all = many_spell next_at more_follow spaced next_spells (length bs) bs x.0.0 x.0.1 x.1 in
    let whole = all_was_read x.0.0 ks x.0.1 x.2 in
    all ∙ ap (λ r. flat_map spaced x.0.0 ++ r) whole.0 ∙ append-nil (flat_map spaced x.0.0) ∙ ap (flat_map spaced) whole.1

pub numbers_read : (ks : List Numeral) → list_all is_numeral ks ≡ true → numbers_of (flat_map spaced ks) ≡ Some ks
unfolding numbers_of
numbers_read ks h =
    let text = flat_map spaced ks in
    let r = many_read next_at more_follow spaced (λ k. is_numeral k ≡ true) Stops (λ k rest v s. (refl, next_reads k rest v s, space_stops _)) (length text) ks []
    (no_more_texts_alone spaced (λ k. omega arith) ks) (each_passes is_numeral ks h) nothing_stops refl in
    let whole = subst (λ bs. many next_at more_follow (length text) bs ≡ Some (ks, [])) (append-nil text) r.0 in
    rw whole refl

named_are_numerals : (ks : List Numeral) → list_all is_named ks ≡ true → list_all is_numeral ks ≡ true
named_are_numerals [] h = refl
named_are_numerals (k ∷ ks) h =
    let x = both_hold (is_named k) _ h in
    let y = both_hold (is_numeral k) _ x.0 in rw (y.0, named_are_numerals ks x.1) refl

pub node_spells : (n : ℕ) (line : List ℕ) (x : Node) → node_of n line ≡ Some x → line ≡ node_text n x
unfolding node_of
node_spells n line x h =
    let front = bind_some (after (node_front n) line) _ x h in
    let a = bind_some (next_at front.0) _ x front.2 in
    let b = bind_some (next_at a.0.1) _ x a.2 in
    let ks = bind_some (numbers_of b.0.1) _ x b.2 in
    let spelled : line ≡ node_front n ++ (spaced a.0.0 ++ (spaced b.0.0 ++ flat_map spaced ks.0)) =
    after_spells (node_front n) line front.0 front.1 ∙ ap (λ r. node_front n ++ r) (next_spells front.0 a.0.0 a.0.1 a.1 ∙ ap (λ r. spaced a.0.0 ++ r) (next_spells a.0.1 b.0.0 b.0.1 b.1 ∙ ap (λ r. spaced b.0.0 ++ r) (numbers_spell b.0.1 ks.0 ks.1))) in
    spelled ∙ ap (node_text n) (same_Some (record { place = a.0.0; entry = b.0.0; preds = ks.0 }) x ks.2)

numbers_stop : (ks : List Numeral) → Stops (flat_map spaced ks)
numbers_stop [] = nothing_stops
numbers_stop (k ∷ ks) = space_stops _

pub node_reads : (n : ℕ) (x : Node) → is_node x ≡ true → node_of n (node_text n x) ≡ Some x
unfolding node_of
node_reads n x h =
    let a = both_hold (is_numeral x.place) _ h in
    let b = both_hold (is_numeral x.entry) _ a.1 in
    let c = both_hold (list_all is_named x.preds) _ b.1 in
    let behind = spaced x.place ++ (spaced x.entry ++ flat_map spaced x.preds) in
    let front : after (node_front n) (node_front n ++ behind) ≡ Some behind = after_reads (node_front n) behind in
    rw (front, next_reads x.place (spaced x.entry ++ flat_map spaced x.preds) a.0 (space_stops _), next_reads x.entry (flat_map spaced x.preds) b.0 (numbers_stop x.preds), numbers_read x.preds (named_are_numerals x.preds c.0)) refl

-- Steps

step_is_made : (a b c : Numeral) (rest : List ℕ) (s : StepLine) → step_made ((a, b, c), rest) ≡ Some s → (rest ≡ []) × (steps.Step a b c ≡ s)
step_is_made a b c [] s h = (refl, same_Some (steps.Step a b c) s h)
step_is_made a b c (x ∷ rest) s h = absurd (let no : ⊥ = cc in no)

back_is_made : (d a b c : Numeral) (rest : List ℕ) (s : StepLine) → back_made d ((a, b, c), rest) ≡ Some s → (rest ≡ []) × (steps.Back d a b c ≡ s)
back_is_made d a b c [] s h = (refl, same_Some (steps.Back d a b c) s h)
back_is_made d a b c (x ∷ rest) s h = absurd (let no : ⊥ = cc in no)

step_end_spells : (bs : List ℕ) (s : StepLine) → step_end_of bs ≡ Some s → codes "step" ++ bs ≡ step_text s
unfolding step_end_of
step_end_spells bs s h =
    let x = bind_some (three_at bs) step_made s h in
    let e = step_is_made x.0.0.0 x.0.0.1 x.0.0.2 x.0.1 s x.2 in
    let none : spaced x.0.0.2 ++ x.0.1 ≡ spaced x.0.0.2 = ap (λ r. spaced x.0.0.2 ++ r) e.0 ∙ append-nil (spaced x.0.0.2) in
    ap (λ r. codes "step" ++ r) (three_spell bs x.0.0.0 x.0.0.1 x.0.0.2 x.0.1 x.1 ∙ ap (λ r. spaced x.0.0.0 ++ (spaced x.0.0.1 ++ r)) none) ∙ ap step_text e.1

back_end_spells : (bs : List ℕ) (s : StepLine) → back_end_of bs ≡ Some s → codes "back" ++ bs ≡ step_text s
unfolding back_end_of
back_end_spells bs s h =
    let a = bind_some (next_at bs) _ s h in
    let x = bind_some (three_at a.0.1) (back_made a.0.0) s a.2 in
    let e = back_is_made a.0.0 x.0.0.0 x.0.0.1 x.0.0.2 x.0.1 s x.2 in
    let none : spaced x.0.0.2 ++ x.0.1 ≡ spaced x.0.0.2 = ap (λ r. spaced x.0.0.2 ++ r) e.0 ∙ append-nil (spaced x.0.0.2) in
    ap (λ r. codes "back" ++ r) (next_spells bs a.0.0 a.0.1 a.1 ∙ ap (λ r. spaced a.0.0 ++ r) (three_spell a.0.1 x.0.0.0 x.0.0.1 x.0.0.2 x.0.1 x.1 ∙ ap (λ r. spaced x.0.0.0 ++ (spaced x.0.0.1 ++ r)) none)) ∙ ap step_text e.1

pub step_spells : (line : List ℕ) (s : StepLine) → step_of line ≡ Some s → line ≡ step_text s
unfolding step_of
step_spells line s h = elim (which_read (after (codes "step") line) step_end_of _ s h) [
  | inl e ↦ after_spells (codes "step") line e.0 e.1 ∙ step_end_spells e.0 s e.2
  | inr h ↦ elim (which_read (after (codes "back") line) back_end_of None s h) [
    | inl e ↦ after_spells (codes "back") line e.0 e.1 ∙ back_end_spells e.0 s e.2
    | inr h ↦ absurd (let no : ⊥ = cc in no)
  ]
]

three_at_end : (a b c : Numeral) → is_numeral a ≡ true → is_numeral b ≡ true → is_numeral c ≡ true → three_at (spaced a ++ (spaced b ++ spaced c)) ≡ Some ((a, b, c), [])
three_at_end a b c f g h = ap (λ r. three_at (spaced a ++ (spaced b ++ r))) (sym (append-nil (spaced c))) ∙ three_read a b c [] f g h nothing_stops

step_end_reads : (a b c : Numeral) → is_step (steps.Step a b c) ≡ true → step_end_of (spaced a ++ (spaced b ++ spaced c)) ≡ Some (steps.Step a b c)
unfolding step_end_of
step_end_reads a b c h =
    let x = both_hold (is_numeral a) _ h in
    let y = both_hold (is_numeral b) _ x.1 in rw (three_at_end a b c x.0 y.0 y.1) refl

back_end_reads : (d a b c : Numeral) → is_step (steps.Back d a b c) ≡ true → back_end_of (spaced d ++ (spaced a ++ (spaced b ++ spaced c))) ≡ Some (steps.Back d a b c)
unfolding back_end_of
back_end_reads d a b c h =
    let w = both_hold (is_numeral d) _ h in
    let x = both_hold (is_numeral a) _ w.1 in
    let y = both_hold (is_numeral b) _ x.1 in
    rw (next_reads d (spaced a ++ (spaced b ++ spaced c)) w.0 (space_stops _), three_at_end a b c x.0 y.0 y.1) refl

pub step_reads : (s : StepLine) → is_step s ≡ true → step_of (step_text s) ≡ Some s
unfolding step_of
step_reads (steps.Step a b c) h = step_end_reads a b c h
step_reads (steps.Back d a b c) h = back_end_reads d a b c h
