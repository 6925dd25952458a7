-- The triples of proofs, by number: lines can show them, and none is shown by two numbers.
use Rattle.std.proofs.Common.{◌≡◌, ◌∙◌, ℕ, List, [], ◌∷◌, ◌++◌, Option, None, Some, refl, sym, ap, subst, inl, inr, append_assoc}
use Rattle.std.specs.Prelude.{Bool, true, false, slice_get, MatchOption}
use Rattle.std.proofs.lemmas.List.{append-nil}
use Rattle.std.specs.List.{AllByRecursion}
use Rattle.std.specs.Option.{option_map}
use Rattle.math_facts.specs.Fits.{Fits}
use Rattle.lin_rows.specs.declared.systems.System.{System}
use Rattle.nwa_base.specs.Members.{Member}
use Rattle.nwa_base.proofs.MemberLemmas.{member_front, member_rest, member_split, member_map, member_from_map}
use Rattle.farkas_check.specs.Nodes.{PlainNode, leaf, cut, cases}
use Rattle.farkas_check.specs.Refutes.{Goal, Refute, goal_of, at_most, above, with_row}
use Rattle.letter_acts.specs.Acts.{PlainAct, inside_act, call_act, back_act, Alphabet}
use Rattle.letter_acts.specs.Invariant.{Graph, alphabet_of, AreDistinct}
use Rattle.triple_rows.specs.declared.triples.Scoped.{Scoped}
use Rattle.triple_rows.specs.declared.triples.Triple.{Triple}
use Rattle.triple_rows.specs.declared.triples.Triple.TheVariants as triples
use Rattle.triple_rows.specs.Triples.{Agrees, InsideAgrees, CallAgrees, ReturnAgrees, BackAgrees, IsRefuted}
use Rattle.triple_rows.specs.Proofs.{PlainProof}
use Rattle.hoare_check.specs.Decided.{IsProofFor}
use Rattle.triple_rows.specs.Cuts.{inside_columns, call_columns, back_columns, columns_of, IsCutWithin}
use Rattle.itp_automaton.specs.Certified.{Certificate}
use Rattle.itp_automaton.proofs.StateLaws.{distinct_more}
use Rattle.proof_names.specs.declared.outlines.Listed.{Listed}
use Rattle.proof_names.specs.declared.outlines.Listed.TheVariants.{Inside, Call, Back}
use Rattle.proof_names.specs.Options.{both}
use Rattle.proof_names.specs.Naming.{scoped_at, inside_at, call_at, return_at, back_at, triple_at, letter_in, width}
use Rattle.proof_names.specs.ProofSpell.Drafts.{PlainShown, IsWithin, MayBeShown}
use Rattle.proof_build.specs.Unwindings.{HasTriple}
use Rattle.proof_build.specs.Numbering.{IsNumberOf, AreListed}
use Rattle.proof_build.specs.Ties.Listing.{IsListedAs, AreItsNumbers, IsOneOf, IsListedIn, Shows, AreTriplesOf, listed_in, IsFirst, AreNumbersOf, AreNeededOnce}
use Rattle.proof_build.proofs.ListLaws.{map_joined}
use Rattle.proof_build.proofs.NumberLaws.{one_number}

-- ---- the numbers of refutations

abbrev LeafFits : PlainNode → Type 0
LeafFits (leaf parts) = AllByRecursion (λ p. Fits p.1) parts
LeafFits (cut c k) = Unit {0}
LeafFits (cases n) = Unit {0}

cases_fit : (ns : List PlainNode) (n : ℕ) (g : Goal) (gs : List Goal) (members : List (List System)) → ((goals : List Goal) → Refute ns goals → AllByRecursion LeafFits ns) → Refute (cases n ∷ ns) (record { rows = g.rows; groups = members } ∷ gs) →
    AllByRecursion LeafFits ns
cases_fit ns n g gs [] f h = absurd h
cases_fit ns n g gs (m ∷ groups) f h = f _ h.1

leaves_fit : (nodes : List PlainNode) (goals : List Goal) → Refute nodes goals → AllByRecursion LeafFits nodes
leaves_fit [] goals h = tt
leaves_fit (n ∷ ns) [] h = absurd h
leaves_fit (leaf parts ∷ ns) (g ∷ gs) h = (h.0.multipliers_fit, leaves_fit ns gs h.1)
leaves_fit (cut c k ∷ ns) (g ∷ gs) h = (tt, leaves_fit ns (with_row g (at_most c k) ∷ with_row g (above c k) ∷ gs) h.2)
leaves_fit (cases n ∷ ns) (g ∷ gs) h = (tt, cases_fit ns n g gs g.groups (leaves_fit ns) h)

node_within : (columns : ℕ) (n : PlainNode) → LeafFits n → IsCutWithin columns n → IsWithin columns n
node_within columns (leaf parts) f c = f
node_within columns (cut k z) f c = c
node_within columns (cases n) f c = tt

nodes_within : (columns : ℕ) (ns : List PlainNode) → AllByRecursion LeafFits ns → AllByRecursion (IsCutWithin columns) ns → AllByRecursion (IsWithin columns) ns
nodes_within columns [] f c = tt
nodes_within columns (n ∷ ns) f c = (node_within columns n f.0 c.0, nodes_within columns ns f.1 c.1)

-- ---- how many columns

inside_width_is : (al : Alphabet) (o : Option PlainAct) (before after : Scoped) → InsideAgrees al o before after → inside_columns al o ≡ width al o
inside_width_is al None before after h = absurd h
inside_width_is al (Some (inside_act p written helpers rows)) before after h = refl
inside_width_is al (Some (call_act caller callee helpers rows)) before after h = absurd h
inside_width_is al (Some (back_act c targets)) before after h = absurd h

call_width_is : (al : Alphabet) (o : Option PlainAct) (before after : Scoped) → CallAgrees al o before after → call_columns al o ≡ width al o
call_width_is al None before after h = absurd h
call_width_is al (Some (inside_act p written helpers rows)) before after h = absurd h
call_width_is al (Some (call_act caller callee helpers rows)) before after h = refl
call_width_is al (Some (back_act c targets)) before after h = absurd h

back_width_is : (al : Alphabet) (o : Option PlainAct) (exit before after : Scoped) → BackAgrees al o exit before after → back_columns al o ≡ width al o
back_width_is al None exit before after h = absurd h
back_width_is al (Some (inside_act p written helpers rows)) exit before after h = absurd h
back_width_is al (Some (call_act caller callee helpers rows)) exit before after h = absurd h
back_width_is al (Some (back_act c targets)) exit before after h = refl

columns_are : (al : Alphabet) (preds : List Scoped) (t : Triple) (n : Listed) → Agrees al t → IsListedAs preds t n → columns_of al t ≡ width al (slice_get al.acts (letter_in n))
columns_are al preds (triples.Inside before l after) (Inside q k r) a h = inside_width_is al (slice_get al.acts l) before after a ∙ ap (λ (x : ℕ). width al (slice_get al.acts x)) (sym h.1)
columns_are al preds (triples.Inside before l after) (Call q k r) a h = absurd h
columns_are al preds (triples.Inside before l after) (Back q p k r) a h = absurd h
columns_are al preds (triples.Call before l after) (Inside q k r) a h = absurd h
columns_are al preds (triples.Call before l after) (Call q k r) a h = call_width_is al (slice_get al.acts l) before after a ∙ ap (λ (x : ℕ). width al (slice_get al.acts x)) (sym h.1)
columns_are al preds (triples.Call before l after) (Back q p k r) a h = absurd h
columns_are al preds (triples.Back exit before l after) (Inside q k r) a h = absurd h
columns_are al preds (triples.Back exit before l after) (Call q k r) a h = absurd h
columns_are al preds (triples.Back exit before l after) (Back q p k r) a h = back_width_is al (slice_get al.acts l) exit before after a ∙ ap (λ (x : ℕ). width al (slice_get al.acts x)) (sym h.2)

-- ---- the triple with these numbers

at_proc : (preds : List Scoped) (s : Scoped) (p k : ℕ) → s.proc ≡ p → IsNumberOf preds s k → scoped_at (slice_get preds) p k ≡ Some s
at_proc preds s p k e h = subst (λ (x : ℕ). scoped_at (slice_get preds) x k ≡ Some s) e h

inside_is : (al : Alphabet) (preds : List Scoped) (q l r : ℕ) (before after : Scoped) (o : Option PlainAct) → InsideAgrees al o before after → IsNumberOf preds before q → IsNumberOf preds after r →
    inside_at (slice_get preds) q l r o ≡ Some (triples.Inside before l after)
inside_is al preds q l r before after None a d e = absurd a
inside_is al preds q l r before after (Some (inside_act p written helpers rows)) a d e =
    λ j. option_map (λ t. triples.Inside t.0 l t.1) (both (at_proc preds before p q a.0.proc d j) (at_proc preds after p r a.1.proc e j))
inside_is al preds q l r before after (Some (call_act caller callee helpers rows)) a d e = absurd a
inside_is al preds q l r before after (Some (back_act c targets)) a d e = absurd a

call_is : (al : Alphabet) (preds : List Scoped) (q l r : ℕ) (before after : Scoped) (o : Option PlainAct) → CallAgrees al o before after → IsNumberOf preds before q → IsNumberOf preds after r →
    call_at (slice_get preds) q l r o ≡ Some (triples.Call before l after)
call_is al preds q l r before after None a d e = absurd a
call_is al preds q l r before after (Some (inside_act p written helpers rows)) a d e = absurd a
call_is al preds q l r before after (Some (call_act caller callee helpers rows)) a d e =
    λ j. option_map (λ t. triples.Call t.0 l t.1) (both (at_proc preds before caller q a.0.proc d j) (at_proc preds after callee r a.1.proc e j))
call_is al preds q l r before after (Some (back_act c targets)) a d e = absurd a

return_is : (al : Alphabet) (preds : List Scoped) (q p l r : ℕ) (exit before after : Scoped) (o : Option PlainAct) → ReturnAgrees al o exit before after → IsNumberOf preds exit q →
    IsNumberOf preds before p → IsNumberOf preds after r → return_at (slice_get preds) q p l r o ≡ Some (triples.Back exit before l after)
return_is al preds q p l r exit before after None a d e f = absurd a
return_is al preds q p l r exit before after (Some (inside_act n written helpers rows)) a d e f = absurd a
return_is al preds q p l r exit before after (Some (call_act caller callee helpers rows)) a d e f =
    λ j. option_map (λ t. triples.Back t.0 t.1.0 l t.1.1)
    (both (at_proc preds exit callee q a.0.proc d j) (both (at_proc preds before caller p a.1.proc e j) (at_proc preds after caller r a.2.proc f j)))
return_is al preds q p l r exit before after (Some (back_act c targets)) a d e f = absurd a

back_is : (al : Alphabet) (preds : List Scoped) (q p l r : ℕ) (exit before after : Scoped) (o : Option PlainAct) → BackAgrees al o exit before after → IsNumberOf preds exit q →
    IsNumberOf preds before p → IsNumberOf preds after r → back_at al.acts (slice_get preds) q p l r o ≡ Some (triples.Back exit before l after)
back_is al preds q p l r exit before after None a d e f = absurd a
back_is al preds q p l r exit before after (Some (inside_act n written helpers rows)) a d e f = absurd a
back_is al preds q p l r exit before after (Some (call_act caller callee helpers rows)) a d e f = absurd a
back_is al preds q p l r exit before after (Some (back_act c targets)) a d e f = return_is al preds q p l r exit before after (slice_get al.acts c) a d e f

triple_is : (al : Alphabet) (preds : List Scoped) (t : Triple) (n : Listed) → Agrees al t → IsListedAs preds t n → triple_at al.acts (slice_get preds) n ≡ Some t
triple_is al preds (triples.Inside before l after) (Inside q k r) a h =
    subst (λ (x : ℕ). triple_at al.acts (slice_get preds) (Inside q x r) ≡ Some (triples.Inside before l after)) (sym h.1) (inside_is al preds q l r before after (slice_get al.acts l) a h.0 h.2)
triple_is al preds (triples.Inside before l after) (Call q k r) a h = absurd h
triple_is al preds (triples.Inside before l after) (Back q p k r) a h = absurd h
triple_is al preds (triples.Call before l after) (Inside q k r) a h = absurd h
triple_is al preds (triples.Call before l after) (Call q k r) a h =
    subst (λ (x : ℕ). triple_at al.acts (slice_get preds) (Call q x r) ≡ Some (triples.Call before l after)) (sym h.1) (call_is al preds q l r before after (slice_get al.acts l) a h.0 h.2)
triple_is al preds (triples.Call before l after) (Back q p k r) a h = absurd h
triple_is al preds (triples.Back exit before l after) (Inside q k r) a h = absurd h
triple_is al preds (triples.Back exit before l after) (Call q k r) a h = absurd h
triple_is al preds (triples.Back exit before l after) (Back q p k r) a h =
    subst (λ (x : ℕ). triple_at al.acts (slice_get preds) (Back q p x r) ≡ Some (triples.Back exit before l after)) (sym h.2)
    (back_is al preds q p l r exit before after (slice_get al.acts l) a h.0 h.1 h.3)

-- ---- lines can show the triple of a proof

pub one_may : (g : Graph) (preds : List Scoped) (proofs : List PlainProof) (t : PlainShown) → ((p : PlainProof) → Member proofs p → IsProofFor (alphabet_of g) p) → IsOneOf preds proofs t → MayBeShown g preds t
one_may g preds proofs t f o =
    let p = f o.proof o.among in
    let e : o.proof.refutation ≡ t.proof = sym o.refutation in
    let c = columns_are (alphabet_of g) preds o.proof.triple t.listed p.agrees o.numbers in
    let w : AllByRecursion (IsWithin (columns_of (alphabet_of g) o.proof.triple)) o.proof.refutation =
    nodes_within (columns_of (alphabet_of g) o.proof.triple) o.proof.refutation (leaves_fit o.proof.refutation (goal_of p.over.system ∷ []) p.over.refutes) p.within in
    record {
      triple = o.proof.triple;
      is = triple_is (alphabet_of g) preds o.proof.triple t.listed p.agrees o.numbers;
      agrees = p.agrees;
      refuted = subst (λ (ns : List PlainNode). IsRefuted (alphabet_of g) o.proof.triple ns) e p.over;
      within = subst (λ (ns : List PlainNode). AllByRecursion (IsWithin (width (alphabet_of g) (slice_get g.acts (letter_in t.listed)))) ns) e
          (subst (λ (n : ℕ). AllByRecursion (IsWithin n) o.proof.refutation) c w);
    }

-- ---- one listing

one_listing : (g : Graph) (preds : List Scoped) (t : Triple) (n m : Listed) → AreListed g preds → IsListedAs preds t n → IsListedAs preds t m → n ≡ m
one_listing g preds (triples.Inside before l after) (Inside q k r) (Inside u v w) d h i =
    let a = one_number g preds before q u d h.0 i.0 in let b = h.1 ∙ sym i.1 in let c = one_number g preds after r w d h.2 i.2 in λ j. Inside (a j) (b j) (c j)
one_listing g preds (triples.Inside before l after) (Inside q k r) (Call u v w) d h i = absurd i
one_listing g preds (triples.Inside before l after) (Inside q k r) (Back u x v w) d h i = absurd i
one_listing g preds (triples.Inside before l after) (Call q k r) m d h i = absurd h
one_listing g preds (triples.Inside before l after) (Back q p k r) m d h i = absurd h
one_listing g preds (triples.Call before l after) (Inside q k r) m d h i = absurd h
one_listing g preds (triples.Call before l after) (Call q k r) (Inside u v w) d h i = absurd i
one_listing g preds (triples.Call before l after) (Call q k r) (Call u v w) d h i =
    let a = one_number g preds before q u d h.0 i.0 in let b = h.1 ∙ sym i.1 in let c = one_number g preds after r w d h.2 i.2 in λ j. Call (a j) (b j) (c j)
one_listing g preds (triples.Call before l after) (Call q k r) (Back u x v w) d h i = absurd i
one_listing g preds (triples.Call before l after) (Back q p k r) m d h i = absurd h
one_listing g preds (triples.Back exit before l after) (Inside q k r) m d h i = absurd h
one_listing g preds (triples.Back exit before l after) (Call q k r) m d h i = absurd h
one_listing g preds (triples.Back exit before l after) (Back q p k r) (Inside u v w) d h i = absurd i
one_listing g preds (triples.Back exit before l after) (Back q p k r) (Call u v w) d h i = absurd i
one_listing g preds (triples.Back exit before l after) (Back q p k r) (Back u x v w) d h i =
    let a = one_number g preds exit q u d h.0 i.0 in let e = one_number g preds before p x d h.1 i.1 in let b = h.2 ∙ sym i.2 in let c = one_number g preds after r w d h.3 i.3 in
    λ j. Back (a j) (e j) (b j) (c j)

found_listing : (g : Graph) (preds : List Scoped) (needed : List Listed) (shown : List PlainShown) (t : Triple) (o : Option Listed) (n : Listed) → AreListed g preds → AreItsNumbers preds t o →
    ((m : Listed) → o ≡ Some m → Member needed m → HasTriple shown m) → IsListedAs preds t n → Member needed n → HasTriple shown n
found_listing g preds needed shown t None n d a f h k = absurd (a n h)
found_listing g preds needed shown t (Some m) n d a f h k =
    let e : m ≡ n = one_listing g preds t m n d a h in
    subst (λ (x : Listed). HasTriple shown x) e (f m refl (subst (λ (x : Listed). Member needed x) (sym e) k))

pub listed_there : (g : Graph) (preds : List Scoped) (needed : List Listed) (shown : List PlainShown) (p : PlainProof) (t : Triple) (n : Listed) → AreListed g preds → IsListedIn preds needed shown p →
    p.triple ≡ t → IsListedAs preds t n → Member needed n → HasTriple shown n
listed_there g preds needed shown p t n d i e h k =
    found_listing g preds needed shown p.triple i.numbers n d i.are i.listed (subst (λ (x : Triple). IsListedAs preds x n) (sym e) h) k

-- ---- answers

-- ---- triples that are added one by one

pub shows_none : (preds : List Scoped) (needed : List Listed) (old : List PlainShown) → Shows preds needed [] old old
shows_none preds needed old = record { rest = []; are = sym (append-nil old); each = λ t m. absurd m; all = λ p m. absurd m }

there_still : (shown more : List PlainShown) (n : Listed) → HasTriple shown n → HasTriple (shown ++ more) n
there_still shown more n h = (h.0, member_front shown more h.0 h.1, h.2)

still_listed : (preds : List Scoped) (needed : List Listed) (shown more new : List PlainShown) (p : PlainProof) → new ≡ shown ++ more → IsListedIn preds needed shown p → IsListedIn preds needed new p
still_listed preds needed shown more new p e h = record {
  numbers = h.numbers;
  are = h.are;
  listed = λ n k m. subst (λ (l : List PlainShown). HasTriple l n) (sym e) (there_still shown more n (h.listed n k m));
}

one_of_more : (preds : List Scoped) (ps more : List PlainProof) (t : PlainShown) → IsOneOf preds ps t → IsOneOf preds (ps ++ more) t
one_of_more preds ps more t h = record { proof = h.proof; among = member_front ps more h.proof h.among; numbers = h.numbers; refutation = h.refutation }

one_of_rest : (preds : List Scoped) (ps more : List PlainProof) (t : PlainShown) → IsOneOf preds more t → IsOneOf preds (ps ++ more) t
one_of_rest preds ps more t h = record { proof = h.proof; among = member_rest ps more h.proof h.among; numbers = h.numbers; refutation = h.refutation }

one_proof : (preds : List Scoped) (needed : List Listed) (shown : List PlainShown) (p : PlainProof) → IsListedIn preds needed shown p → (x : PlainProof) → Member (p ∷ []) x → IsListedIn preds needed shown x
one_proof preds needed shown p h x (inl i) = subst (λ (y : PlainProof). IsListedIn preds needed shown y) i h
one_proof preds needed shown p h x (inr none) = absurd none

one_triple : (preds : List Scoped) (ps : List PlainProof) (t : PlainShown) → IsOneOf preds ps t → (x : PlainShown) → Member (t ∷ []) x → IsOneOf preds ps x
one_triple preds ps t h x (inl i) = subst (λ (y : PlainShown). IsOneOf preds ps y) i h
one_triple preds ps t h x (inr none) = absurd none

-- a proof whose triple is added
pub shows_one : (preds : List Scoped) (needed : List Listed) (p : PlainProof) (old new : List PlainShown) (t : PlainShown) → IsListedAs preds p.triple t.listed → t.proof ≡ p.refutation →
    new ≡ old ++ t ∷ [] → Shows preds needed (p ∷ []) old new
shows_one preds needed p old new t l r e = record {
  rest = t ∷ [];
  are = e;
  each = one_triple preds (p ∷ []) t (record { proof = p; among = inl refl; numbers = l; refutation = r });
  all = one_proof preds needed new p (record {
    numbers = Some t.listed;
    are = l;
    listed = λ n d k. subst (λ (s : List PlainShown). HasTriple s n) (sym e) (t, member_rest old (t ∷ []) t (inl refl), (let q : t.listed ≡ n = cc in q));
  });
}

-- a proof whose triple is there, is not needed or has a predicate without a number
pub shows_kept : (preds : List Scoped) (needed : List Listed) (p : PlainProof) (old : List PlainShown) (o : Option Listed) → AreItsNumbers preds p.triple o →
    ((n : Listed) → o ≡ Some n → Member needed n → HasTriple old n) → Shows preds needed (p ∷ []) old old
shows_kept preds needed p old o a f = record {
  rest = [];
  are = sym (append-nil old);
  each = λ t m. absurd m;
  all = one_proof preds needed old p (record { numbers = o; are = a; listed = f });
}

pub shows_joined : (preds : List Scoped) (needed : List Listed) (ps qs : List PlainProof) (old mid new : List PlainShown) → Shows preds needed ps old mid → Shows preds needed qs mid new →
    Shows preds needed (ps ++ qs) old new
shows_joined preds needed ps qs old mid new h k = record {
  rest = h.rest ++ k.rest;
  are = k.are ∙ ap (λ (l : List PlainShown). l ++ k.rest) h.are ∙ append_assoc old h.rest k.rest;
  each = λ x m. elim (member_split h.rest k.rest x m) [ inl i ↦ one_of_more preds ps qs x (h.each x i) | inr i ↦ one_of_rest preds ps qs x (k.each x i) ];
  all = λ x m. elim (member_split ps qs x m) [ inl i ↦ still_listed preds needed mid k.rest new x k.are (h.all x i) | inr i ↦ k.all x i ];
}

-- the proofs of one more certificate
pub certificate_shown : (preds : List Scoped) (needed : List Listed) (cs : List Certificate) (c : Certificate) (old new : List PlainShown) → AreTriplesOf preds cs needed old →
    Shows preds needed c.proofs old new → AreTriplesOf preds (cs ++ c ∷ []) needed new
certificate_shown preds needed cs c old new a s = record {
  each = λ t m. elim (member_split old s.rest t (subst (λ (l : List PlainShown). Member l t) s.are m)) [
    | inl k ↦ let e = a.each t k in (e.0, member_front cs (c ∷ []) e.0 e.1, e.2)
    | inr k ↦ (c, member_rest cs (c ∷ []) c (inl refl), s.each t k)
  ];
  all = λ d m. elim (member_split cs (c ∷ []) d m) [
    | inl k ↦ λ p n. still_listed preds needed old s.rest new p s.are (a.all d k p n)
    | inr k ↦ elim k [
      | inl i ↦ subst (λ (x : Certificate). (p : PlainProof) → Member x.proofs p → IsListedIn preds needed new p) i s.all
      | inr none ↦ absurd none
    ]
  ];
}

pub no_triples : (preds : List Scoped) (needed : List Listed) → AreTriplesOf preds [] needed []
no_triples preds needed = record { each = λ t m. absurd m; all = λ c m. absurd m }

-- ---- each once

there_seen : (needed seen : List Listed) (shown : List PlainShown) (n : Listed) → AreNumbersOf needed seen shown → Member seen n → HasTriple shown n
there_seen needed seen shown n h m = member_from_map (λ (t : PlainShown). t.listed) shown n (subst (λ (l : List Listed). Member l n) (sym h.are) m)

-- a triple that is not the first with its numbers is there if it is needed
pub not_first : (needed seen new : List Listed) (shown : List PlainShown) (o : Option Listed) (t : Listed) (b : Bool) → AreNumbersOf needed seen shown → IsFirst needed seen t b new → b ≡ false → o ≡ Some t →
    (n : Listed) → o ≡ Some n → Member needed n → HasTriple shown n
not_first needed seen new shown o t b h f e is n i m =
    let k : IsFirst needed seen t false new = subst (λ (x : Bool). IsFirst needed seen t x new) e f in
    let j : t ≡ n = cc in
    there_seen needed seen shown n h (subst (λ (x : Listed). Member seen x) j (k.0 (subst (λ (x : Listed). Member needed x) (sym j) m)))

pub numbers_more : (needed seen new : List Listed) (shown more : List PlainShown) (t : PlainShown) (b : Bool) → AreNumbersOf needed seen shown → IsFirst needed seen t.listed b new → b ≡ true →
    more ≡ shown ++ t ∷ [] → AreNumbersOf needed new more
numbers_more needed seen new shown more t b h f e is =
    let k : IsFirst needed seen t.listed true new = subst (λ (x : Bool). IsFirst needed seen t.listed x new) e f in
    record {
      are = ap listed_in is ∙ map_joined (λ (x : PlainShown). x.listed) shown (t ∷ []) ∙ ap (λ (l : List Listed). l ++ t.listed ∷ []) h.are ∙ sym k.2;
      once = subst (λ (l : List Listed). AreDistinct l) (sym k.2) (distinct_more seen t.listed h.once k.1);
      within = λ x m. elim (member_split seen (t.listed ∷ []) x (subst (λ (l : List Listed). Member l x) k.2 m)) [
        | inl i ↦ h.within x i
        | inr i ↦ elim i [ inl j ↦ subst (λ (y : Listed). Member needed y) j k.0 | inr none ↦ absurd none ]
      ];
    }

pub no_numbers : (needed seen : List Listed) → seen ≡ [] → AreNumbersOf needed seen []
no_numbers needed seen e = subst (λ (l : List Listed). AreNumbersOf needed l []) (sym e) (record { are = refl; once = tt; within = λ t m. absurd m })

pub needed_once : (needed seen : List Listed) (shown : List PlainShown) → AreNumbersOf needed seen shown → AreNeededOnce needed shown
needed_once needed seen shown h = record {
  once = subst (λ (l : List Listed). AreDistinct l) (sym h.are) h.once;
  within = λ t m. h.within t.listed (subst (λ (l : List Listed). Member l t.listed) h.are (member_map (λ (x : PlainShown). x.listed) shown t m));
}

-- ---- a triple of which a predicate has no number

pub none_inside : (preds : List Scoped) (t : Triple) (from to : Scoped) (l : ℕ) (n : Listed) → t ≡ triples.Inside from l to →
    ((q r : ℕ) → IsNumberOf preds from q → IsNumberOf preds to r → ⊥) → IsListedAs preds t n → ⊥
none_inside preds t from to l n e f h = at n (subst (λ (x : Triple). IsListedAs preds x n) e h)
  where
    at : (m : Listed) → IsListedAs preds (triples.Inside from l to) m → ⊥
    at (Inside q k r) g = f q r g.0 g.2
    at (Call q k r) g = g
    at (Back q p k r) g = g

pub none_call : (preds : List Scoped) (t : Triple) (from to : Scoped) (l : ℕ) (n : Listed) → t ≡ triples.Call from l to →
    ((q r : ℕ) → IsNumberOf preds from q → IsNumberOf preds to r → ⊥) → IsListedAs preds t n → ⊥
none_call preds t from to l n e f h = at n (subst (λ (x : Triple). IsListedAs preds x n) e h)
  where
    at : (m : Listed) → IsListedAs preds (triples.Call from l to) m → ⊥
    at (Inside q k r) g = g
    at (Call q k r) g = f q r g.0 g.2
    at (Back q p k r) g = g

-- the numbers of both predicates, as those of the triple
both_numbers : (preds : List Scoped) (a b : Scoped) (o : Option (ℕ × ℕ)) (n : ℕ × ℕ) (N : Type 0) → o ≡ Some n → MatchOption o N (λ m. IsNumberOf preds a m.0 × IsNumberOf preds b m.1) →
    IsNumberOf preds a n.0 × IsNumberOf preds b n.1
both_numbers preds a b o n N k h = subst (λ (y : Option (ℕ × ℕ)). MatchOption y N (λ m. IsNumberOf preds a m.0 × IsNumberOf preds b m.1)) k h

pub listed_inside : (preds : List Scoped) (t : Triple) (a b : Scoped) (l : ℕ) (o : Option (ℕ × ℕ)) (n : ℕ × ℕ) (N : Type 0) → t ≡ triples.Inside a l b → o ≡ Some n →
    MatchOption o N (λ m. IsNumberOf preds a m.0 × IsNumberOf preds b m.1) → IsListedAs preds t (Inside n.0 l n.1)
listed_inside preds t a b l o n N e k h =
    let m : IsNumberOf preds a n.0 × IsNumberOf preds b n.1 = both_numbers preds a b o n N k h in
    subst (λ (x : Triple). IsListedAs preds x (Inside n.0 l n.1)) (sym e) (m.0, refl, m.1)

pub listed_call : (preds : List Scoped) (t : Triple) (a b : Scoped) (l : ℕ) (o : Option (ℕ × ℕ)) (n : ℕ × ℕ) (N : Type 0) → t ≡ triples.Call a l b → o ≡ Some n →
    MatchOption o N (λ m. IsNumberOf preds a m.0 × IsNumberOf preds b m.1) → IsListedAs preds t (Call n.0 l n.1)
listed_call preds t a b l o n N e k h =
    let m : IsNumberOf preds a n.0 × IsNumberOf preds b n.1 = both_numbers preds a b o n N k h in
    subst (λ (x : Triple). IsListedAs preds x (Call n.0 l n.1)) (sym e) (m.0, refl, m.1)
