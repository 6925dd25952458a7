-- A node is opened by its steps and by the backs that join it with others.
use Rattle.std.proofs.Common.{◌≡◌, ◌∙◌, ◌⊎◌, ℕ, ◌+◌, ◌<◌, ◌≤◌, Bool, true, false, cond, eqb, eq-eqb, List, [], ◌∷◌, ◌++◌, length, refl, sym, ap, subst, inl, inr, arith}
use Rattle.std.specs.Prelude.{Result, Ok, Err, OnOk, ◌==◌}
use Rattle.std.proofs.lemmas.Bool.{eqb-true}
use Rattle.nwa_base.specs.declared.letters.Letter.{Letter}
use Rattle.nwa_base.specs.Members.{Member}
use Rattle.nwa_base.specs.Automata.{Automaton, IsAutomaton}
use Rattle.nwa_base.specs.Edges.{backs_leaving}
use Rattle.nwa_base.proofs.MemberLemmas.{member_front, member_rest, member_split}
use Rattle.proof_names.specs.Outlines.{OutlineNode}
use Rattle.proof_check.specs.Steps.{IsOpen}
use Rattle.proof_build.specs.ProofUnwind.Unwindings.{node_at, node_place_in, entry_of, IsAlong, bare}
use Rattle.proof_build.specs.ProofUnwind.Exploring.{IsOverPreds, IsExploring, Stage, Explores, GoesOn, GoesOnFrom, HasInsides, HasCalls, IsReturned, AreReturned, AreOpened, IsExit, AreExits}
use Rattle.proof_build.proofs.ProofUnwind.OpeningLaws.{IsOpened, below_or_last, opened_more, grows_not, grows_on, none_opened}
use Rattle.proof_build.proofs.ProofUnwind.ExploringLaws.{nothing_explored}
use Rattle.proof_build.proofs.ProofUnwind.LoopLaws.{none_leave}
use Rattle.proof_build.proofs.ProofUnwind.StageLaws.{Grown, goes_on, goes_from, from_on, there_stays, at_stays, exit_stays, inside_stays, called_stays, joined_stays, joined_by, call_stays_there}

pub on_ok : {T E : Type 0} (r : Result T E) (P Q : Type 0) → (P → Q) → OnOk r P → OnOk r Q
on_ok (Ok x) P Q f h = f h
on_ok (Err e) P Q f h = h

-- nothing in a list without a length
pub none_found : {X : Type 0} (xs ys : List X) (b : Bool) → xs ≡ ys → b ≡ (length xs == 0) → b ≡ true → ys ≡ []
none_found [] ys b e f t = sym e
none_found (x ∷ xs) ys b e f t = let k : length (x ∷ xs) ≡ 0 = eqb-true (length (x ∷ xs)) 0 (sym f ∙ t) in absurd (omega (arith, k))

-- ---- steps and backs one after the other

pub insides_stay : (m b : Automaton) (s t : Stage) (n : ℕ) → Explores m b s → Grown s t → n < length s.nodes → HasInsides m s n → HasInsides m t n
insides_stay m b s t n h g l f a e i =
    inside_stays m b s t n a e h g (f a e (subst (λ (x : OutlineNode). Member m.insides (x.place, a, e)) (at_stays s t n g l) i))

pub calls_stay : (m b : Automaton) (s t : Stage) (n : ℕ) → Explores m b s → Grown s t → n < length s.nodes → HasCalls m s n → HasCalls m t n
calls_stay m b s t n h g l f a e i =
    called_stays m b s t n a e h g (f a e (subst (λ (x : OutlineNode). Member m.calls (x.place, a, e)) (at_stays s t n g l) i))

pub forward : (m b : Automaton) (n : ℕ) (s t u : Stage) → n < length s.nodes → GoesOn m b s t × HasInsides m t n → GoesOnFrom m b n t u × HasCalls m u n →
    GoesOnFrom m b n s u × HasInsides m u n × HasCalls m u n
forward m b n s t u l f g = (
  from_on m b n s t u (goes_from m b n s t f.0) g.0,
  insides_stay m b t u n f.0.exploring g.0.grows (there_stays s t n f.0.grows l) f.1,
  g.1,
)

-- no return leads from the node
pub none_returned : (m b : Automaton) (s t : Stage) (n place : ℕ) → GoesOn m b s t → n < length s.nodes → place ≡ node_place_in s.nodes n → backs_leaving place m.backs ≡ [] → IsReturned m s t n
none_returned m b s t n place g l e none c a i k d j id =
    absurd (none_leave place m.backs (node_place_in t.nodes c) k d none
    (subst (λ (p : ℕ). Member m.backs (p, node_place_in t.nodes c, k, d)) (sym (e ∙ sym (ap (λ (x : OutlineNode). x.place) (at_stays s t n g.grows l)))) j))

pub returned_on : (m b : Automaton) (exits : ℕ → List ℕ) (n : ℕ) (s t u : Stage) → IsAutomaton m → Explores m b s → n < length s.nodes → GoesOn m b s t × IsReturned m s t n →
    GoesOn m b t u × AreReturned m exits t u n → GoesOn m b s u × IsReturned m s u n × AreReturned m exits s u n
returned_on m b exits n s t u v h l f g = (
  goes_on m b s t u f.0 g.0,
  λ c a i. (joined_stays m b t u n c a f.0.exploring g.0.grows (joined_by m b s t n c a (entry_of s.nodes n) v h l i f.0 (f.1 c a i))).backs,
  λ a k i. g.1 a k (call_stays_there m b s t n a k f.0 i),
)

-- ---- exits

pub exits_stay : (m : Automaton) (s t : Stage) (r : ℕ) (exits : ℕ → List ℕ) → Grown s t → r ≤ length s.nodes → AreExits m s.nodes r exits → AreExits m t.nodes r exits
exits_stay m s t r exits g l h = record {
  sound = λ k x i. exit_stays s t k x g (h.sound k x i);
  complete = λ x i. subst (λ (y : OutlineNode). IsOpen y → (c : ℕ) (a : Letter) (e : ℕ) → Member m.backs (y.place, c, a, e) → Member (exits y.entry) x)
      (sym (at_stays s t x g (omega (arith, i, l)))) (h.complete x i);
}

-- the node has false, or no return leads from it
pub exits_same : (m : Automaton) (nodes : List OutlineNode) (r : ℕ) (exits : ℕ → List ℕ) → (IsOpen (node_at nodes r) → (c : ℕ) (a : Letter) (e : ℕ) → Member m.backs (node_place_in nodes r, c, a, e) → ⊥) →
    AreExits m nodes r exits → AreExits m nodes (r + 1) exits
exits_same m nodes r exits none h = record {
  sound = h.sound;
  complete = λ x l. below_or_last (λ n. IsOpen (node_at nodes n) → (c : ℕ) (a : Letter) (e : ℕ) → Member m.backs (node_place_in nodes n, c, a, e) → Member (exits (entry_of nodes n)) n) r x l
      h.complete (λ o c a e i. absurd (none o c a e i));
}

-- with the node itself
pub exits_more : (m : Automaton) (nodes : List OutlineNode) (r entry : ℕ) (exits new : ℕ → List ℕ) → r < length nodes → IsOpen (node_at nodes r) → entry ≡ entry_of nodes r →
    ((k : ℕ) → new k ≡ cond (eqb entry k) (exits k ++ r ∷ []) (exits k)) → AreExits m nodes r exits → AreExits m nodes (r + 1) new
exits_more m nodes r entry exits new l o e f h = record {
  sound = λ k x i. sound k x (eqb entry k) refl (subst (λ (z : List ℕ). Member z x) (f k) i);
  complete = λ x i. below_or_last (λ n. IsOpen (node_at nodes n) → (c : ℕ) (a : Letter) (j : ℕ) → Member m.backs (node_place_in nodes n, c, a, j) → Member (new (entry_of nodes n)) n) r x i
      (λ n j p c a d q. subst (λ (z : List ℕ). Member z n) (sym (f (entry_of nodes n)))
      (kept (exits (entry_of nodes n)) n (eqb entry (entry_of nodes n)) (h.complete n j p c a d q)))
      (λ p c a d q. subst (λ (z : List ℕ). Member z r) (sym (f (entry_of nodes r))) (last (exits (entry_of nodes r)) (eqb entry (entry_of nodes r)) (eq-eqb entry (entry_of nodes r) e)));
}
  where
    one : (k x : ℕ) → entry ≡ k → Member (exits k) x ⊎ Member (r ∷ []) x → IsExit nodes k x
    one k x i (inl j) = h.sound k x j
    one k x i (inr (inl j)) = subst (λ (y : ℕ). IsExit nodes k y) j (record { there = l; under = sym e ∙ i; opens = o })
    one k x i (inr (inr j)) = absurd j

    sound : (k x : ℕ) (t : Bool) → eqb entry k ≡ t → Member (cond t (exits k ++ r ∷ []) (exits k)) x → IsExit nodes k x
    sound k x true i j = one k x (eqb-true entry k i) (member_split (exits k) (r ∷ []) x j)
    sound k x false i j = h.sound k x j

    kept : (xs : List ℕ) (n : ℕ) (t : Bool) → Member xs n → Member (cond t (xs ++ r ∷ []) xs) n
    kept xs n true i = member_front xs (r ∷ []) n i
    kept xs n false i = i

    last : (xs : List ℕ) (t : Bool) → t ≡ true → Member (cond t (xs ++ r ∷ []) xs) r
    last xs t i = subst (λ (z : Bool). Member (cond z (xs ++ r ∷ []) xs) r) (sym i) (member_rest xs (r ∷ []) r (inl refl))

-- ---- the node is opened

-- one with false
pub closed_opened : (m b : Automaton) (s : Stage) (n : ℕ) → Explores m b s → n < length s.nodes → (IsOpen (node_at s.nodes n) → ⊥) → AreOpened m s.nodes s.steps n →
    AreOpened m s.nodes s.steps (n + 1)
closed_opened m b s n h l q o = opened_more m s.nodes s.steps s.nodes s.steps n l h.along o (grows_not s.nodes s.steps) (λ c a k i. inl i) (record {
  insides = λ p. absurd (q p);
  calls = λ p. absurd (q p);
  exits = λ c i p. absurd (q p);
  returns = λ x i v p. absurd (q p);
})

node_opened : (m b : Automaton) (exits : ℕ → List ℕ) (n : ℕ) (s t u : Stage) → n < length s.nodes → AreExits m s.nodes n exits → GoesOnFrom m b n s t → HasInsides m t n → HasCalls m t n →
    GoesOn m b t u → IsReturned m t u n → AreReturned m exits t u n → IsOpened m u.nodes u.steps n
node_opened m b exits n s t u l h f i c g r q =
    let there : n < length t.nodes = there_stays s t n f.grows l in
    let grown : Grown s u = grows_on s.nodes s.steps t.nodes t.steps u.nodes u.steps f.grows g.grows in
    record {
      insides = λ o. insides_stay m b t u n f.exploring g.grows there i;
      calls = λ o. calls_stay m b t u n f.exploring g.grows there c;
      exits = λ d j o p a k. r d a (subst (λ (x : OutlineNode). Member t.steps.calls (d, a, x.entry)) (at_stays t u n g.grows there)
          (subst (λ (z : List (ℕ × Letter × ℕ)). Member z (d, a, entry_of u.nodes n)) g.calls k));
      returns = λ x j o p a k v e w. q a (entry_of u.nodes x) (subst (λ (z : List (ℕ × Letter × ℕ)). Member z (n, a, entry_of u.nodes x)) g.calls k) x
          ((exits_stay m s u n exits grown (omega (arith, l)) h).complete x j o (node_place_in u.nodes n) v e w) v e w;
    }

pub opened_on : (m b : Automaton) (exits : ℕ → List ℕ) (n : ℕ) (s t u : Stage) → Explores m b s → n < length s.nodes → AreExits m s.nodes n exits → AreOpened m s.nodes s.steps n →
    GoesOnFrom m b n s t × HasInsides m t n × HasCalls m t n → GoesOn m b t u × IsReturned m t u n × AreReturned m exits t u n → AreOpened m u.nodes u.steps (n + 1)
opened_on m b exits n s t u h l x o f g =
    let on : GoesOnFrom m b n s u = from_on m b n s t u f.0 (goes_from m b n t u g.0) in
    opened_more m s.nodes s.steps u.nodes u.steps n l h.along o on.grows on.calls (node_opened m b exits n s t u l x f.0 f.1 f.2 g.0 g.1 g.2)

-- ---- before the first node and after the last

pub opened_at_last : (m : Automaton) (nodes : List OutlineNode) (s : Automaton) (r : ℕ) → length nodes ≤ r → IsAlong m nodes s → AreOpened m nodes s r → AreOpened m nodes s (length nodes)
opened_at_last m nodes s r l al h = record {
  insides = λ n i. h.insides n (omega (arith, i, l));
  calls = λ n i. h.calls n (omega (arith, i, l));
  backs = λ x c i j. h.backs x c (omega (arith, i, l)) (omega (arith, j, l));
  callers = λ c a k i. (al.calls c a k i).from;
}

abbrev pub unstepped : Automaton
unstepped = record { states = 1; start = 0; finals = []; insides = []; calls = []; backs = [] }

pub explored_first : (m b : Automaton) (s : Stage) → IsOverPreds b → s.nodes ≡ bare ∷ [] → s.steps ≡ unstepped → Explores m b s
explored_first m b s o e f =
    subst (λ (n : List OutlineNode). IsExploring m b n s.steps) (sym e) (subst (λ (z : Automaton). IsExploring m b (bare ∷ []) z) (sym f)
    (nothing_explored m b unstepped (record { over = o; states = refl; insides = refl; calls = refl; backs = refl })))

pub opened_first : (m : Automaton) (s : Stage) → s.steps ≡ unstepped → AreOpened m s.nodes s.steps 0
opened_first m s f = none_opened m s.nodes s.steps (ap (λ (z : Automaton). z.calls) f)

pub exits_first : (m : Automaton) (nodes : List OutlineNode) (exits : ℕ → List ℕ) → ((k : ℕ) → exits k ≡ []) → AreExits m nodes 0 exits
exits_first m nodes exits e = record {
  sound = λ k x i. absurd (subst (λ (z : List ℕ). Member z x) (e k) i);
  complete = λ x i. absurd (omega (arith, i));
}
