-- The triples of an accepted word with its prefix predicates agree with their letters.
use Rattle.std.proofs.Common.{◌≡◌, ◌∙◌, ℕ, suc, ◌+◌, ◌<◌, ◌≤◌, List, [], ◌∷◌, ◌++◌, length, map, take, drop, refl, sym, ap, subst, arith, length-append, length-drop, Option, None, Some}
use Rattle.std.specs.Prelude.{slice_get, slice_index, unwrap_or}
use Rattle.std.specs.List.{AllByRecursion}
use Rattle.std.proofs.lemmas.List.{length-take-le}
use Rattle.nwa_base.specs.declared.letters.Kind.{Kind}
use Rattle.nwa_base.specs.declared.letters.Kind.TheVariants as kinds
use Rattle.nwa_base.specs.declared.letters.Letter.{Letter}
use Rattle.nwa_base.specs.Members.{Member}
use Rattle.nwa_base.specs.Acceptance.{Follows, AcceptsFrom, Accepts}
use Rattle.letter_acts.specs.Frames.{Columns, globals_of, result_columns}
use Rattle.letter_acts.specs.Acts.{PlainAct, inside_act, call_act, Alphabet, frame_of, act_of}
use Rattle.letter_acts.specs.Invariant.{Graph, IsGraph, alphabet_of, IsPlaceOf}
use Rattle.letter_acts.specs.Kept.{Keeps}
use Rattle.letter_acts.proofs.KnownLemmas.{frames_laid_out}
use Rattle.path_rows.specs.Versions.{PathStage, Part, part_of, act_part, return_part, back_part, rowless_part, returned, local_columns}
use Rattle.letter_acts.specs.FrameRows.Rows.{columns_from}
use Rattle.path_rows.specs.Paths.{start_frame, first_stage}
use Rattle.path_rows.proofs.ListLemmas.{length-columns_from}
use Rattle.path_rows.proofs.LayoutLemmas.{laid_out}
use Rattle.path_rows.proofs.EdgeLemmas.{inside_acts, call_acts, back_acts}
use Rattle.path_rows.proofs.CallLaws.{CallFrames, entered_length}
use Rattle.path_rows.proofs.DifferLemmas.{length_written}
use Rattle.farkas_check.specs.Trees.{Tree}
use Rattle.triple_rows.specs.declared.triples.Scoped.{Scoped}
use Rattle.triple_rows.specs.declared.triples.Triple.{Triple}
use Rattle.triple_rows.specs.Predicates.{Formula, IsOver}
use Rattle.triple_rows.specs.Triples.{IsScoped, InsideAgrees, CallAgrees, ReturnAgrees, BackAgrees, Agrees}
use Rattle.triple_rows.proofs.FormulaLaws.{prefix_read}
use Rattle.nested_itp.specs.NestedPredicates.Positions.{CallScope, has_return, callee_scope, scopes_after, Position, position_at, positions_along, start_scope}
use Rattle.nested_itp.specs.NestedPredicates.Joins.{predicate_at}
use Rattle.nested_itp.specs.NestedPredicates.Interpolants.{interpolant_at, prefix_predicates, letter_triple, saved_after, triples_along}
use Rattle.nested_itp.proofs.NestedPredicates.SpellingLaws.{predicate_over}

same_proc : (procs : List ℕ) (q a b : ℕ) → IsPlaceOf procs a q → IsPlaceOf procs b q → a ≡ b
same_proc procs q a b x y = let e : Some a ≡ Some b = sym x ∙ y in cc

-- the frame at a position is that of the procedure of a place
pub record StandsAt (g : Graph) (x : ℕ) (q : Position) : Type 0 where
  pub place : IsPlaceOf g.place_procs q.scope.proc x
  pub long : length q.here ≡ length (frame_of (alphabet_of g) q.scope.proc)

-- its predicate is of that procedure, over its columns
scoped : (g : Graph) (w : List Letter) (t : Tree) (q : Position) (x p : ℕ) → StandsAt g x q → IsPlaceOf g.place_procs p x → p < length g.frames → IsScoped (alphabet_of g) p (interpolant_at g w t q)
scoped g w t q x p s place exists =
    let e : q.scope.proc ≡ p = same_proc g.place_procs x q.scope.proc p s.place place in
    record {
      proc = e;
      exists = exists;
      over = subst (λ (f : Formula). IsOver (length (frame_of (alphabet_of g) p)) f) (sym (prefix_read (predicate_at g w t q)))
          (subst (λ (n : ℕ). IsOver n (predicate_at g w t q)) (s.long ∙ ap (λ (r : ℕ). length (frame_of (alphabet_of g) r)) e) (predicate_over g w t q));
    }

-- a call is open: before it stood a place, with these versions, this scope, and this predicate
pub record OpenAt (g : Graph) (x : ℕ) (v : List ℕ) (s : CallScope) (f : Scoped) : Type 0 where
  pub place : IsPlaceOf g.place_procs s.proc x
  pub long : length v ≡ length (frame_of (alphabet_of g) s.proc)
  pub scoped_in : (p : ℕ) → IsPlaceOf g.place_procs p x → p < length g.frames → IsScoped (alphabet_of g) p f

abbrev pub AreOpen : Graph → List ℕ → List (List ℕ) → List CallScope → List Scoped → Type 0
AreOpen g [] saved scopes preds = Unit {0}
AreOpen g (x ∷ places) [] scopes preds = ⊥
AreOpen g (x ∷ places) (v ∷ saved) [] preds = ⊥
AreOpen g (x ∷ places) (v ∷ saved) (s ∷ scopes) [] = ⊥
AreOpen g (x ∷ places) (v ∷ saved) (s ∷ scopes) (f ∷ preds) = OpenAt g x v s f × AreOpen g places saved scopes preds

-- what one letter gives: it has this kind, number and act, and leads from a scope with others outside it to a place, and a stage
pub record Next (g : Graph) (w : List Letter) (t : Tree) (n : ℕ) (p : PathStage) (s : CallScope) (outer : List CallScope) (saved : List Scoped) (id : ℕ) (rest : List Letter)
    (end : ℕ) (kind : Kind) (act : Option PlainAct) (after : PathStage) : Type 0 where
  pub inner : CallScope
  pub others : List CallScope
  pub places : List ℕ
  pub scopes : scopes_after (alphabet_of g) (suc n) kind act rest after.here p.here (s ∷ outer) ≡ inner ∷ others
  pub stands : StandsAt g end (position_at (suc n) after (inner ∷ others))
  pub opened : AreOpen g places after.saved others (saved_after kind (interpolant_at g w t (position_at n p (s ∷ outer))) saved)
  pub accepts : AcceptsFrom g.automaton places end rest
  pub agrees : AllByRecursion (Agrees (alphabet_of g))
      (letter_triple kind id (interpolant_at g w t (position_at n p (s ∷ outer))) saved (interpolant_at g w t (position_at (suc n) after (inner ∷ others))))

-- as long as the frame before the call
returned_length : (caller callee : Columns) (targets exit before : List ℕ) → length (globals_of caller) ≤ length exit → length (globals_of caller) ≤ length before →
    length (returned caller callee targets exit before) ≡ length before
returned_length caller callee targets exit before l m =
    let n : ℕ = length (globals_of caller) in
    let e = length_written (take n exit ++ drop n before) targets (map (slice_index exit) (result_columns callee)) in
    let a = length-append (take n exit) (drop n before) in
    let b = length-take-le n exit l in
    let c = length-drop n before in
    omega (arith, e, a, b, c, m)

-- by a return from the place before which these calls are open
next_back : (g : Graph) (w : List Letter) (t : Tree) → IsGraph g → (n : ℕ) (p : PathStage) (s : CallScope) (a : Letter) (rest : List Letter) (x m end : ℕ) (places : List ℕ) →
    a.kind ≡ kinds.Back → Member g.automaton.backs (x, m, a, end) → AcceptsFrom g.automaton places end rest →
    IsPlaceOf g.place_procs s.proc x → length p.here ≡ length (frame_of (alphabet_of g) s.proc) →
    (sv : List (List ℕ)) (outer : List CallScope) (saved : List Scoped) → p.saved ≡ sv → AreOpen g (m ∷ places) sv outer saved →
    Next g w t n p s outer saved a.id rest end kinds.Back (act_of (alphabet_of g) a) (part_of (alphabet_of g) a p).after
next_back g w t ok n p s a rest x m end places k edge acc place long [] outer saved i o = absurd o
next_back g w t ok n p s a rest x m end places k edge acc place long (v ∷ sv) [] saved i o = absurd o
next_back g w t ok n p s a rest x m end places k edge acc place long (v ∷ sv) (u ∷ outer) [] i o = absurd o
next_back g w t ok n p s a rest x m end places k edge acc place long (v ∷ sv) (u ∷ outer) (f ∷ saved) i o =
    let b = back_acts g ok x m end a k edge in
    let al : Alphabet = alphabet_of g in
    let caller : Columns = frame_of al b.known.caller in
    let callee : Columns = frame_of al b.known.callee in
    let ts : List ℕ = b.known.targets in
    let lay = frames_laid_out g ok in
    let in_caller = laid_out lay.0 caller (lay.1 b.known.caller b.known.call_acted.caller_exists) in
    let in_callee = laid_out lay.0 callee (lay.1 b.known.callee b.known.call_acted.callee_exists) in
    let at_exit : s.proc ≡ b.known.callee = same_proc g.place_procs x s.proc b.known.callee place b.exit in
    let at_call : u.proc ≡ b.known.caller = same_proc g.place_procs m u.proc b.known.caller o.0.place b.known.before in
    let exit_long : length p.here ≡ length callee = long ∙ ap (λ (r : ℕ). length (frame_of al r)) at_exit in
    let call_long : length v ≡ length caller = o.0.long ∙ ap (λ (r : ℕ). length (frame_of al r)) at_call in
    let c = in_caller.global_count in
    let cl = in_caller.long in
    let el = in_callee.long in
    let after : PathStage = record { made = p.made; here = returned caller callee ts p.here v; saved = sv } in
    let there : part_of al a p ≡ rowless_part after =
    ap (λ (q : Option PlainAct). act_part al q p) b.act_is ∙ ap (λ (q : Option PlainAct). return_part al ts q p) b.known.call ∙
    ap (λ (l : List (List ℕ)). back_part caller callee ts p.made p.here l) i in
    let after_long : length (returned caller callee ts p.here v) ≡ length (frame_of al u.proc) =
    returned_length caller callee ts p.here v (omega (arith, c, el, exit_long)) (omega (arith, c, cl, call_long)) ∙ o.0.long in
    let stands : StandsAt g end (position_at (suc n) after (u ∷ outer)) =
    record { place = subst (λ (r : ℕ). IsPlaceOf g.place_procs r end) (sym at_call) b.known.ends; long = after_long } in
    let before_stands : StandsAt g x (position_at n p (s ∷ u ∷ outer)) = record { place = place; long = long } in
    let from_scoped = scoped g w t (position_at n p (s ∷ u ∷ outer)) x b.known.callee before_stands b.exit b.known.call_acted.callee_exists in
    let to_scoped = scoped g w t (position_at (suc n) after (u ∷ outer)) end b.known.caller stands b.known.ends b.known.call_acted.caller_exists in
    let exit_pred : Scoped = interpolant_at g w t (position_at n p (s ∷ u ∷ outer)) in
    let to_pred : Scoped = interpolant_at g w t (position_at (suc n) after (u ∷ outer)) in
    let agrees : BackAgrees al (slice_get g.acts a.id) exit_pred f to_pred =
    subst (λ (q : Option PlainAct). BackAgrees al q exit_pred f to_pred) (sym b.known.act)
    (subst (λ (q : Option PlainAct). ReturnAgrees al q exit_pred f to_pred) (sym b.known.call)
    (from_scoped, o.0.scoped_in b.known.caller b.known.before b.known.call_acted.caller_exists, to_scoped)) in
    subst (λ (r : PathStage). Next g w t n p s (u ∷ outer) (f ∷ saved) a.id rest end kinds.Back (act_of al a) r) (ap (λ (r : Part). r.after) (sym there))
    (record {
      inner = u;
      others = outer;
      places = places;
      scopes = refl;
      stands = stands;
      opened = o.1;
      accepts = acc;
      agrees = (agrees, tt);
    })

next_inside : (g : Graph) (w : List Letter) (t : Tree) → IsGraph g → (n : ℕ) (p : PathStage) (s : CallScope) (a : Letter) (rest : List Letter) (x end : ℕ) (places : List ℕ) →
    Member g.automaton.insides (x, a, end) → AcceptsFrom g.automaton places end rest →
    IsPlaceOf g.place_procs s.proc x → length p.here ≡ length (frame_of (alphabet_of g) s.proc) →
    (outer : List CallScope) (saved : List Scoped) → AreOpen g places p.saved outer saved →
    Next g w t n p s outer saved a.id rest end kinds.Inside (act_of (alphabet_of g) a) (part_of (alphabet_of g) a p).after
next_inside g w t ok n p s a rest x end places edge acc place long outer saved o =
    let b = inside_acts g ok x end a edge in
    let al : Alphabet = alphabet_of g in
    let act : PlainAct = inside_act b.known.proc b.known.written b.known.helpers b.known.rows in
    let after : PathStage = (act_part al (Some act) p).after in
    let here : s.proc ≡ b.known.proc = same_proc g.place_procs x s.proc b.known.proc place b.known.starts in
    let stands : StandsAt g end (position_at (suc n) after (s ∷ outer)) = record {
      place = subst (λ (r : ℕ). IsPlaceOf g.place_procs r end) (sym here) b.known.ends;
      long = length_written p.here b.known.written (columns_from p.made (length b.known.written)) ∙ long;
    } in
    let before_stands : StandsAt g x (position_at n p (s ∷ outer)) = record { place = place; long = long } in
    let from_pred : Scoped = interpolant_at g w t (position_at n p (s ∷ outer)) in
    let to_pred : Scoped = interpolant_at g w t (position_at (suc n) after (s ∷ outer)) in
    let agrees : InsideAgrees al (slice_get g.acts a.id) from_pred to_pred =
    subst (λ (q : Option PlainAct). InsideAgrees al q from_pred to_pred) (sym b.known.act) (
      scoped g w t (position_at n p (s ∷ outer)) x b.known.proc before_stands b.known.starts b.known.acted.proc_exists,
      scoped g w t (position_at (suc n) after (s ∷ outer)) end b.known.proc stands b.known.ends b.known.acted.proc_exists,
    ) in
    subst (λ (q : Option PlainAct). Next g w t n p s outer saved a.id rest end kinds.Inside q (act_part al q p).after) (sym b.act_is)
    (record {
      inner = s;
      others = outer;
      places = places;
      scopes = refl;
      stands = stands;
      opened = o;
      accepts = acc;
      agrees = (agrees, tt);
    })

next_call : (g : Graph) (w : List Letter) (t : Tree) → IsGraph g → (n : ℕ) (p : PathStage) (s : CallScope) (a : Letter) (rest : List Letter) (x end : ℕ) (places : List ℕ) →
    Member g.automaton.calls (x, a, end) → AcceptsFrom g.automaton (x ∷ places) end rest →
    IsPlaceOf g.place_procs s.proc x → length p.here ≡ length (frame_of (alphabet_of g) s.proc) →
    (outer : List CallScope) (saved : List Scoped) → AreOpen g places p.saved outer saved →
    Next g w t n p s outer saved a.id rest end kinds.Call (act_of (alphabet_of g) a) (part_of (alphabet_of g) a p).after
next_call g w t ok n p s a rest x end places edge acc place long outer saved o =
    let b = call_acts g ok x end a edge in
    let al : Alphabet = alphabet_of g in
    let act : PlainAct = call_act b.known.caller b.known.callee b.known.helpers b.known.rows in
    let after : PathStage = (act_part al (Some act) p).after in
    let caller : Columns = frame_of al b.known.caller in
    let callee : Columns = frame_of al b.known.callee in
    let lay = frames_laid_out g ok in
    let here : s.proc ≡ b.known.caller = same_proc g.place_procs x s.proc b.known.caller place b.known.starts in
    let frames : CallFrames lay.0 caller callee p.here = record {
      from_frame = lay.1 b.known.caller b.known.acted.caller_exists;
      to_frame = lay.1 b.known.callee b.known.acted.callee_exists;
      long = long ∙ ap (λ (r : ℕ). length (frame_of al r)) here;
    } in
    let inner : CallScope = callee_scope al (suc n) b.known.callee (has_return 0 rest) after.here p.here in
    let stands : StandsAt g end (position_at (suc n) after (inner ∷ s ∷ outer)) = record {
      place = b.ends;
      long = entered_length lay.0 caller callee p.here frames p.made (p.made + length (local_columns callee) + b.known.helpers);
    } in
    let before_stands : StandsAt g x (position_at n p (s ∷ outer)) = record { place = place; long = long } in
    let from_pred : Scoped = interpolant_at g w t (position_at n p (s ∷ outer)) in
    let to_pred : Scoped = interpolant_at g w t (position_at (suc n) after (inner ∷ s ∷ outer)) in
    let agrees : CallAgrees al (slice_get g.acts a.id) from_pred to_pred =
    subst (λ (q : Option PlainAct). CallAgrees al q from_pred to_pred) (sym b.known.act) (
      scoped g w t (position_at n p (s ∷ outer)) x b.known.caller before_stands b.known.starts b.known.acted.caller_exists,
      scoped g w t (position_at (suc n) after (inner ∷ s ∷ outer)) end b.known.callee stands b.ends b.known.acted.callee_exists,
    ) in
    let opened : OpenAt g x p.here s from_pred = record {
      place = place;
      long = long;
      scoped_in = λ r k l. scoped g w t (position_at n p (s ∷ outer)) x r before_stands k l;
    } in
    subst (λ (q : Option PlainAct). Next g w t n p s outer saved a.id rest end kinds.Call q (act_part al q p).after) (sym b.act_is)
    (record {
      inner = inner;
      others = s ∷ outer;
      places = x ∷ places;
      scopes = refl;
      stands = stands;
      opened = (opened, o);
      accepts = acc;
      agrees = (agrees, tt);
    })

next_of : (g : Graph) (w : List Letter) (t : Tree) → IsGraph g → (n : ℕ) (p : PathStage) (s : CallScope) (a : Letter) (rest : List Letter) (x end : ℕ) (outer : List CallScope) (saved : List Scoped) →
    IsPlaceOf g.place_procs s.proc x → length p.here ≡ length (frame_of (alphabet_of g) s.proc) →
    (kind : Kind) → a.kind ≡ kind → (places : List ℕ) → AreOpen g places p.saved outer saved →
    Follows g.automaton kind a places x end (λ st. AcceptsFrom g.automaton st end rest) →
    Next g w t n p s outer saved a.id rest end kind (act_of (alphabet_of g) a) (part_of (alphabet_of g) a p).after
next_of g w t ok n p s a rest x end outer saved place long kinds.Inside k places o f = next_inside g w t ok n p s a rest x end places f.0 f.1 place long outer saved o
next_of g w t ok n p s a rest x end outer saved place long kinds.Call k places o f = next_call g w t ok n p s a rest x end places f.0 f.1 place long outer saved o
next_of g w t ok n p s a rest x end outer saved place long kinds.Back k [] o f = absurd f
next_of g w t ok n p s a rest x end outer saved place long kinds.Back k (m ∷ places) o f =
    next_back g w t ok n p s a rest x m end places k f.0 f.1 place long p.saved outer saved refl o

all_joined : (P : Triple → Type 0) (xs ys : List Triple) → AllByRecursion P xs → AllByRecursion P ys → AllByRecursion P (xs ++ ys)
all_joined P [] ys h k = k
all_joined P (x ∷ xs) ys h k = (h.0, all_joined P xs ys h.1 k)

-- the triples of a letter and of those behind it, whose positions begin with one
with_rest : (P : Triple → Type 0) (f : Position → Scoped) (from : Scoped) (saved : List Scoped) (a : Letter) (rest : List Letter) (q : Position) (qs : List Position) →
    AllByRecursion P (letter_triple a.kind a.id from saved (f q)) → AllByRecursion P (triples_along rest (map f (q ∷ qs)) (saved_after a.kind from saved)) →
    AllByRecursion P (triples_along (a ∷ rest) (from ∷ map f (q ∷ qs)) saved)
with_rest P f from saved a rest q qs h k = all_joined P (letter_triple a.kind a.id from saved (f q)) (triples_along rest (map f (q ∷ qs)) (saved_after a.kind from saved)) h k

-- the positions from one on begin with it
split_with : (P : Triple → Type 0) (f : Position → Scoped) (from : Scoped) (saved : List Scoped) (a : Letter) (rest : List Letter) (al : Alphabet) (n : ℕ) (p : PathStage) (scopes : List CallScope) →
    AllByRecursion P (letter_triple a.kind a.id from saved (f (position_at n p scopes))) →
    AllByRecursion P (triples_along rest (map f (positions_along al n p scopes rest)) (saved_after a.kind from saved)) →
    AllByRecursion P (triples_along (a ∷ rest) (from ∷ map f (positions_along al n p scopes rest)) saved)
split_with P f from saved a [] al n p scopes h k = with_rest P f from saved a [] (position_at n p scopes) [] h k
split_with P f from saved a (b ∷ rest) al n p scopes h k =
    let after : PathStage = (part_of al b p).after in
    with_rest P f from saved a (b ∷ rest) (position_at n p scopes)
    (positions_along al (suc n) after (scopes_after al (suc n) b.kind (act_of al b) rest after.here p.here scopes) rest) h k

agree_from : (g : Graph) (w : List Letter) (t : Tree) → IsGraph g → (rest : List Letter) (n : ℕ) (p : PathStage) (s : CallScope) (outer : List CallScope) (places : List ℕ) (x : ℕ) (saved : List Scoped) →
    IsPlaceOf g.place_procs s.proc x → length p.here ≡ length (frame_of (alphabet_of g) s.proc) → AreOpen g places p.saved outer saved → AcceptsFrom g.automaton places x rest →
    AllByRecursion (Agrees (alphabet_of g)) (triples_along rest (map (interpolant_at g w t) (positions_along (alphabet_of g) n p (s ∷ outer) rest)) saved)
agree_from g w t ok [] n p s outer places x saved place long o acc = tt
agree_from g w t ok (a ∷ rest) n p s outer places x saved place long o acc =
    let al : Alphabet = alphabet_of g in
    let k = next_of g w t ok n p s a rest x acc.0 outer saved place long a.kind refl places o acc.1 in
    let after : PathStage = (part_of al a p).after in
    let from : Scoped = interpolant_at g w t (position_at n p (s ∷ outer)) in
    let more = agree_from g w t ok rest (suc n) after k.inner k.others k.places acc.0 (saved_after a.kind from saved) k.stands.place k.stands.long k.opened k.accepts in
    subst (λ (scopes : List CallScope). AllByRecursion (Agrees al) (triples_along (a ∷ rest) (from ∷ map (interpolant_at g w t) (positions_along al (suc n) after scopes rest)) saved)) (sym k.scopes)
    (split_with (Agrees al) (interpolant_at g w t) from saved a rest al (suc n) after (k.inner ∷ k.others) k.agrees more)

-- ---- the start

some_self : (o : Option ℕ) (p : ℕ) → o ≡ Some p → o ≡ Some (unwrap_or o 0)
some_self None p e = absurd (cc)
some_self (Some x) p e = refl

-- a place from which a letter leads is one of a procedure
led_from : (g : Graph) → IsGraph g → (a : Letter) (x end : ℕ) (P : List ℕ → Type 0) (kind : Kind) → Follows g.automaton kind a [] x end P → slice_get g.place_procs x ≡ Some (unwrap_or (slice_get g.place_procs x) 0)
led_from g ok a x end P kinds.Inside f = let b = inside_acts g ok x end a f.0 in some_self (slice_get g.place_procs x) b.known.proc b.known.starts
led_from g ok a x end P kinds.Call f = let b = call_acts g ok x end a f.0 in some_self (slice_get g.place_procs x) b.known.caller b.known.starts
led_from g ok a x end P kinds.Back f = absurd f

-- the triples of an accepted word with its prefix predicates agree with their letters
pub triples_agree : (g : Graph) (w : List Letter) (t : Tree) → IsGraph g → Accepts g.automaton w → AllByRecursion (Agrees (alphabet_of g)) (triples_along w (prefix_predicates g w t) [])
triples_agree g w t ok acc = by_word w acc
  where
    by_word : (v : List Letter) → AcceptsFrom g.automaton [] g.automaton.start v →
        AllByRecursion (Agrees (alphabet_of g)) (triples_along v (map (interpolant_at g w t) (positions_along (alphabet_of g) 0 (first_stage (start_frame g)) (start_scope g ∷ []) v)) [])
    by_word [] h = tt
    by_word (a ∷ v) h =
        agree_from g w t ok (a ∷ v) 0 (first_stage (start_frame g)) (start_scope g) [] [] g.automaton.start []
        (led_from g ok a g.automaton.start h.0 (λ st. AcceptsFrom g.automaton st h.0 v) a.kind h.1) (length-columns_from 0 (length (start_frame g))) tt h

pub kept_graph : (g : Graph) → Keeps g → IsGraph g
unfolding Keeps
kept_graph g h = h
