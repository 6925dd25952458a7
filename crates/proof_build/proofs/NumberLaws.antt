-- Numbers of predicates: which predicate has which, and that no two have the same.
use Rattle.std.proofs.Common.{◌≡◌, ◌∙◌, ℕ, zero, suc, ◌+◌, ◌<◌, true, false, Bool, List, [], ◌∷◌, ◌++◌, length, Option, None, Some, refl, sym, ap, subst, arith}
use Rattle.std.specs.Prelude.{slice_get, is_some, Result, Ok, Err, OnOk}
use Rattle.std.specs.declared.alloc.AllocError.{AllocError}
use Rattle.nwa_base.specs.Members.{Member}
use Rattle.std.specs.List.{AllByRecursion}
use Rattle.letter_acts.specs.Acts.{PlainAct, inside_act, call_act, back_act, Alphabet, frame_of}
use Rattle.letter_acts.specs.Invariant.{Graph, alphabet_of}
use Rattle.triple_rows.specs.declared.predicates.PredNode.{PredNode}
use Rattle.triple_rows.specs.declared.predicates.PredNode.TheVariants.{Truth}
use Rattle.triple_rows.specs.declared.triples.Scoped.{Scoped}
use Rattle.triple_rows.specs.declared.triples.Triple.{Triple}
use Rattle.triple_rows.specs.declared.triples.Triple.TheVariants.{Inside, Call, Back}
use Rattle.triple_rows.specs.Predicates.{Formula, truth, atom, and_of, or_of, formula_of, IsTruth, IsOver}
use Rattle.triple_rows.specs.Triples.{truth_of, IsScoped, InsideAgrees, CallAgrees, ReturnAgrees, BackAgrees, Agrees}
use Rattle.triple_rows.specs.Proofs.{PlainProof}
use Rattle.triple_rows.proofs.ListLaws.{within}
use Rattle.itp_automaton.specs.Certified.{Certificate}
use Rattle.itp_automaton.specs.Making.{named_in}
use Rattle.itp_automaton.proofs.StateLaws.{member_at, place_of, one_place, distinct_more}
use Rattle.proof_names.specs.ProofSpell.Correspond.{Correspond}
use Rattle.proof_names.specs.ProofSpell.Drafts.{MayBeNamed}
use Rattle.proof_build.specs.Numbering.{HasBody, IsNumberOf, IsNumber, truth_number, AreNumbers, number_at, AreListed, IsNumbered, AreNumbered, AreAllNumbered, ListsMore}
use Rattle.proof_build.proofs.ListLaws.{got_front, got_last, all_push, all_mapped}
use Rattle.proof_build.proofs.ScopeLaws.{all_of_member}

-- a truth value of its procedure, as a predicate
truth_is : (p : ℕ) (b : Bool) (s : Scoped) → Some (truth_of p b) ≡ Some s → s.pred ≡ Truth b ∷ []
truth_is p b s e = let k : truth_of p b ≡ s = cc in sym (ap (λ (x : Scoped). x.pred) k)

pub number_within : (preds : List Scoped) (s : Scoped) (k : ℕ) → IsNumberOf preds s k → k < 2 + length preds
number_within preds s zero h = omega arith
number_within preds s (suc zero) h = omega arith
number_within preds s (suc (suc k)) h = let l = within preds k s h in omega (arith, l)

pub number_stays : (preds rest : List Scoped) (s : Scoped) (k : ℕ) → IsNumberOf preds s k → IsNumberOf (preds ++ rest) s k
number_stays preds rest s zero h = h
number_stays preds rest s (suc zero) h = h
number_stays preds rest s (suc (suc k)) h = got_front preds rest k s h

pub no_number : (preds : List Scoped) (s : Scoped) → ((b : Bool) → formula_of s.pred ≡ truth b → ⊥) → (Member preds s → ⊥) → (k : ℕ) → IsNumberOf preds s k → ⊥
no_number preds s t m zero h = t true (ap formula_of (truth_is s.proc true s h))
no_number preds s t m (suc zero) h = t false (ap formula_of (truth_is s.proc false s h))
no_number preds s t m (suc (suc k)) h = m (member_at preds k s h)

-- ---- one number

truth_of_nodes : (nodes : List PredNode) (b : Bool) → nodes ≡ Truth b ∷ [] → IsTruth (formula_of nodes)
truth_of_nodes nodes b e = subst (λ (ns : List PredNode). IsTruth (formula_of ns)) (sym e) tt

not_listed : (g : Graph) (preds : List Scoped) (s : Scoped) (b : Bool) (k : ℕ) → AreListed g preds → s.pred ≡ Truth b ∷ [] → slice_get preds k ≡ Some s → ⊥
not_listed g preds s b k l e h = (all_of_member (MayBeNamed g) preds s l.named (member_at preds k s h)).no_truth (truth_of_nodes s.pred b e)

no_two : (nodes : List PredNode) → nodes ≡ Truth true ∷ [] → nodes ≡ Truth false ∷ [] → ⊥
no_two nodes e f = cc

pub one_number : (g : Graph) (preds : List Scoped) (s : Scoped) (j k : ℕ) → AreListed g preds → IsNumberOf preds s j → IsNumberOf preds s k → j ≡ k
one_number g preds s zero zero l d e = refl
one_number g preds s zero (suc zero) l d e = absurd (no_two s.pred (truth_is s.proc true s d) (truth_is s.proc false s e))
one_number g preds s zero (suc (suc k)) l d e = absurd (not_listed g preds s true k l (truth_is s.proc true s d) e)
one_number g preds s (suc zero) zero l d e = absurd (no_two s.pred (truth_is s.proc true s e) (truth_is s.proc false s d))
one_number g preds s (suc zero) (suc zero) l d e = refl
one_number g preds s (suc zero) (suc (suc k)) l d e = absurd (not_listed g preds s false k l (truth_is s.proc false s d) e)
one_number g preds s (suc (suc j)) zero l d e = absurd (not_listed g preds s true j l (truth_is s.proc true s e) d)
one_number g preds s (suc (suc j)) (suc zero) l d e = absurd (not_listed g preds s false j l (truth_is s.proc false s e) d)
one_number g preds s (suc (suc j)) (suc (suc k)) l d e = ap (λ (n : ℕ). suc (suc n)) (one_place preds j k s l.once d e)

-- ---- one more predicate

pub truth_by : (f : Formula) → IsTruth f → (b : Bool) × (f ≡ truth b)
truth_by (truth b) t = (b, refl)
truth_by (atom r) t = absurd t
truth_by (and_of fs) t = absurd t
truth_by (or_of fs) t = absurd t

-- a predicate that has no number, of a procedure with a body, is listed
pub lists_one : (g : Graph) (preds : List Scoped) (s : Scoped) (o : Option ℕ) (new : List Scoped) → AreListed g preds → IsOver (length (frame_of (alphabet_of g) s.proc)) (formula_of s.pred) →
    HasBody g s.proc → o ≡ None → IsNumber preds s o → ((b : Bool) → formula_of s.pred ≡ truth b → o ≡ Some (truth_number b)) → new ≡ preds ++ s ∷ [] → ListsMore g preds new
lists_one g preds s o new l v b e n t is =
    let none : IsNumber preds s None = subst (λ (x : Option ℕ). IsNumber preds s x) e n in
    let fresh : Member preds s → ⊥ = λ m. (let p = place_of preds s m in none (suc (suc p.0)) p.1) in
    let may : MayBeNamed g s = record { body = b; over = v; no_truth = λ k. (let f = truth_by (formula_of s.pred) k in let z = t f.0 f.1 in absurd (cc)) } in
    let both : AreListed g (preds ++ s ∷ []) = record { named = all_push (MayBeNamed g) preds s l.named may; once = distinct_more preds s l.once fresh } in
    record { listed = subst (λ (x : List Scoped). AreListed g x) (sym is) both; rest = s ∷ []; are = is }

pub numbered_last : (g : Graph) (preds : List Scoped) (s : Scoped) (new : List Scoped) → new ≡ preds ++ s ∷ [] → IsNumbered g new s
numbered_last g preds s new is = λ b. (suc (suc (length preds)), subst (λ (x : List Scoped). slice_get x (length preds) ≡ Some s) (sym is) (got_last preds s))

-- ---- more and more predicates

pub no_more : (g : Graph) (preds : List Scoped) → AreListed g preds → ListsMore g preds preds
no_more g preds l = record { listed = l; rest = []; are = sym (append_none preds) }
  where
    append_none : {X : Type 0} (xs : List X) → xs ++ [] ≡ xs
    append_none [] = refl
    append_none (x ∷ xs) = ap (λ (l : List _). x ∷ l) (append_none xs)

pub more_on : (g : Graph) (old mid new : List Scoped) → ListsMore g old mid → ListsMore g mid new → ListsMore g old new
more_on g old mid new a b = record {
  listed = b.listed;
  rest = a.rest ++ b.rest;
  are = b.are ∙ ap (λ (l : List Scoped). l ++ b.rest) a.are ∙ joined old a.rest b.rest;
}
  where
    joined : {X : Type 0} (xs ys zs : List X) → (xs ++ ys) ++ zs ≡ xs ++ (ys ++ zs)
    joined [] ys zs = refl
    joined (x ∷ xs) ys zs = ap (λ (l : List _). x ∷ l) (joined xs ys zs)

pub numbered_stays : (g : Graph) (old new : List Scoped) (s : Scoped) → ListsMore g old new → IsNumbered g old s → IsNumbered g new s
numbered_stays g old new s m n = λ b. (let k = n b in (k.0, subst (λ (x : List Scoped). IsNumberOf x s k.0) (sym m.are) (number_stays old m.rest s k.0 k.1)))

-- ---- the numbers of states

-- the number of the state, if it has one; true and false have theirs
pub record HasItsNumber (preds : List Scoped) (o : Option ℕ) (s : Scoped) : Type 0 where
  pub number : IsNumber preds s o
  pub truths : (b : Bool) → formula_of s.pred ≡ truth b → o ≡ Some (truth_number b)

its_number : (preds states : List Scoped) (numbers : List (Option ℕ)) (q : ℕ) (s : Scoped) → Correspond (HasItsNumber preds) numbers states → slice_get states q ≡ Some s →
    HasItsNumber preds (number_at numbers q) s
its_number preds [] numbers q s h e = absurd (cc)
its_number preds (x ∷ states) [] q s h e = absurd h
its_number preds (x ∷ states) (o ∷ numbers) zero s h e = let k : x ≡ s = cc in subst (λ (y : Scoped). HasItsNumber preds o y) k h.0
its_number preds (x ∷ states) (o ∷ numbers) (suc q) s h e = its_number preds states numbers q s h.1 e

pub numbers_are : (preds states : List Scoped) (numbers : List (Option ℕ)) → Correspond (HasItsNumber preds) numbers states → AreNumbers preds states (number_at numbers)
numbers_are preds states numbers h = record {
  each = λ q s e. (its_number preds states numbers q s h e).number;
  truths = λ q b t. (its_number preds states numbers q t.0 h t.1).truths b t.2;
}

one_within : (preds : List Scoped) (o : Option ℕ) (s : Scoped) (k : ℕ) → IsNumber preds s o → o ≡ Some k → k < 2 + length preds
one_within preds o s k n e = number_within preds s k (subst (λ (x : Option ℕ). IsNumber preds s x) e n)

pub numbers_within : (preds states : List Scoped) (numbers : List (Option ℕ)) (q k : ℕ) → Correspond (HasItsNumber preds) numbers states → number_at numbers q ≡ Some k → k < 2 + length preds
numbers_within preds states [] q k h e = absurd (cc)
numbers_within preds [] (o ∷ numbers) q k h e = absurd h
numbers_within preds (x ∷ states) (o ∷ numbers) zero k h e = one_within preds o x k h.0.number e
numbers_within preds (x ∷ states) (o ∷ numbers) (suc q) k h e = numbers_within preds states numbers q k h.1 e

-- ---- the predicates of triples

abbrev Members : Graph → List Scoped → List Scoped → Type 0
Members g preds ss = AllByRecursion (IsNumbered g preds) ss

pub all_stay : (g : Graph) (old new : List Scoped) (ss : List Scoped) → ListsMore g old new → Members g old ss → Members g new ss
all_stay g old new ss m h = all_mapped (IsNumbered g old) (IsNumbered g new) ss (λ s n. numbered_stays g old new s m n) h

pub proofs_stay : (g : Graph) (old new : List Scoped) (ps : List PlainProof) → ListsMore g old new → AreNumbered g old ps → AreNumbered g new ps
proofs_stay g old new ps m h =
    all_mapped (λ p. AllByRecursion (IsNumbered g old) (named_in p.triple)) (λ p. AllByRecursion (IsNumbered g new) (named_in p.triple)) ps
    (λ p n. all_stay g old new (named_in p.triple) m n) h

pub certificates_stay : (g : Graph) (old new : List Scoped) (cs : List Certificate) → ListsMore g old new → AreAllNumbered g old cs → AreAllNumbered g new cs
certificates_stay g old new cs m h = all_mapped (λ c. AreNumbered g old c.proofs) (λ c. AreNumbered g new c.proofs) cs (λ c n. proofs_stay g old new c.proofs m n) h

pub two_numbered : (g : Graph) (mid new : List Scoped) (a b : Scoped) (named : List Scoped) (r : Result (Unit {0}) AllocError) → IsNumbered g mid a → OnOk r (ListsMore g mid new) →
    OnOk r (IsNumbered g new b) → named ≡ a ∷ b ∷ [] → OnOk r (Members g new named)
two_numbered g mid new a b named (Ok x) n m k e = subst (λ (l : List Scoped). Members g new l) (sym e) (numbered_stays g mid new a m n, (k, tt))
two_numbered g mid new a b named (Err f) n m k e = tt

pub three_numbered : (g : Graph) (first mid new : List Scoped) (a b d : Scoped) (named : List Scoped) (r : Result (Unit {0}) AllocError) → IsNumbered g first a → ListsMore g first mid → IsNumbered g mid b →
    OnOk r (ListsMore g mid new) → OnOk r (IsNumbered g new d) → named ≡ a ∷ b ∷ d ∷ [] → OnOk r (Members g new named)
three_numbered g first mid new a b d named (Ok x) n p q m k e =
    subst (λ (l : List Scoped). Members g new l) (sym e) (numbered_stays g first new a (more_on g first mid new p m) n, (numbered_stays g mid new b m q, (k, tt)))
three_numbered g first mid new a b d named (Err f) n p q m k e = tt

pub none_is : (o : Option ℕ) → is_some o ≡ false → o ≡ None
none_is None e = refl
none_is (Some k) e = absurd (cc)

pub more_then : (g : Graph) (old mid new : List Scoped) (r : Result (Unit {0}) AllocError) → ListsMore g old mid → OnOk r (ListsMore g mid new) → OnOk r (ListsMore g old new)
more_then g old mid new (Ok x) m k = more_on g old mid new m k
more_then g old mid new (Err f) m k = tt

pub more_twice : (g : Graph) (old first mid new : List Scoped) (r : Result (Unit {0}) AllocError) → ListsMore g old first → ListsMore g first mid → OnOk r (ListsMore g mid new) → OnOk r (ListsMore g old new)
more_twice g old first mid new r m n k = more_then g old mid new r (more_on g old first mid m n) k

-- ---- the predicates of a triple that agrees are over their frames

abbrev IsOverFrame : Alphabet → Scoped → Type 0
IsOverFrame al s = IsOver (length (frame_of al s.proc)) (formula_of s.pred)

scope_over : (al : Alphabet) (p : ℕ) (s : Scoped) → IsScoped al p s → IsOverFrame al s
scope_over al p s h = subst (λ (q : ℕ). IsOver (length (frame_of al q)) (formula_of s.pred)) (sym h.proc) h.over

inside_over : (al : Alphabet) (o : Option PlainAct) (a b : Scoped) → InsideAgrees al o a b → AllByRecursion (IsOverFrame al) (a ∷ b ∷ [])
inside_over al None a b h = absurd h
inside_over al (Some (inside_act p written helpers rows)) a b h = (scope_over al p a h.0, (scope_over al p b h.1, tt))
inside_over al (Some (call_act caller callee helpers rows)) a b h = absurd h
inside_over al (Some (back_act c targets)) a b h = absurd h

call_over : (al : Alphabet) (o : Option PlainAct) (a b : Scoped) → CallAgrees al o a b → AllByRecursion (IsOverFrame al) (a ∷ b ∷ [])
call_over al None a b h = absurd h
call_over al (Some (inside_act p written helpers rows)) a b h = absurd h
call_over al (Some (call_act caller callee helpers rows)) a b h = (scope_over al caller a h.0, (scope_over al callee b h.1, tt))
call_over al (Some (back_act c targets)) a b h = absurd h

return_over : (al : Alphabet) (o : Option PlainAct) (a b d : Scoped) → ReturnAgrees al o a b d → AllByRecursion (IsOverFrame al) (a ∷ b ∷ d ∷ [])
return_over al None a b d h = absurd h
return_over al (Some (inside_act p written helpers rows)) a b d h = absurd h
return_over al (Some (call_act caller callee helpers rows)) a b d h = (scope_over al callee a h.0, (scope_over al caller b h.1, (scope_over al caller d h.2, tt)))
return_over al (Some (back_act c targets)) a b d h = absurd h

back_over : (al : Alphabet) (o : Option PlainAct) (a b d : Scoped) → BackAgrees al o a b d → AllByRecursion (IsOverFrame al) (a ∷ b ∷ d ∷ [])
back_over al None a b d h = absurd h
back_over al (Some (inside_act p written helpers rows)) a b d h = absurd h
back_over al (Some (call_act caller callee helpers rows)) a b d h = absurd h
back_over al (Some (back_act c targets)) a b d h = return_over al (slice_get al.acts c) a b d h

all_over : (al : Alphabet) (t : Triple) → Agrees al t → AllByRecursion (IsOverFrame al) (named_in t)
all_over al (Inside from letter to) h = inside_over al (slice_get al.acts letter) from to h
all_over al (Call from letter to) h = call_over al (slice_get al.acts letter) from to h
all_over al (Back exit before letter to) h = back_over al (slice_get al.acts letter) exit before to h

pub named_over : (al : Alphabet) (t : Triple) (named : List Scoped) → Agrees al t → named_in t ≡ named → AllByRecursion (IsOverFrame al) named
named_over al t named h e = subst (λ (l : List Scoped). AllByRecursion (IsOverFrame al) l) e (all_over al t h)
