-- Each node of an unwinding is reached from the first by its steps and backs.
use Rattle.std.proofs.Common.{◌≡◌, ℕ, ◌<◌, ◌⊎◌, List, [], ◌∷◌, ◌++◌, length, refl, inl, inr}
use Rattle.std.specs.Prelude.{map}
use Rattle.nwa_base.specs.declared.letters.Letter.{Letter}
use Rattle.nwa_base.specs.Members.{Member}
use Rattle.nwa_base.specs.Automata.{Automaton}
use Rattle.nwa_base.proofs.MemberLemmas.{member_front, member_rest, member_map}
use Rattle.proof_names.specs.declared.outlines.NamedStep.{NamedStep}
use Rattle.proof_names.specs.declared.outlines.NamedStep.TheVariants as steps
use Rattle.proof_names.specs.Outlines.{OutlineNode}
use Rattle.proof_build.specs.ProofUnwind.Unwindings.{entry_of, IsReached, IsPart}
use Rattle.proof_build.specs.Unwindings.{step_of, back_of, steps_of}
use Rattle.proof_build.specs.Sketches.{sources, IsLedTo, AreFoundInTurn, IsReachable}
use Rattle.proof_build.proofs.ListLaws.{all_mapped}
use Rattle.proof_build.proofs.WordLaws.{kept_everywhere}

-- ---- steps of an unwinding

pub inside_step_in : (s : Automaton) (n : ℕ) (a : Letter) (k : ℕ) → Member s.insides (n, a, k) → Member (steps_of s) (steps.Step n a.id k)
inside_step_in s n a k e = member_front (map step_of s.insides) (map step_of s.calls ++ map back_of s.backs) (steps.Step n a.id k) (member_map step_of s.insides (n, a, k) e)

pub call_step_in : (s : Automaton) (n : ℕ) (a : Letter) (k : ℕ) → Member s.calls (n, a, k) → Member (steps_of s) (steps.Step n a.id k)
call_step_in s n a k e =
    member_rest (map step_of s.insides) (map step_of s.calls ++ map back_of s.backs) (steps.Step n a.id k)
    (member_front (map step_of s.calls) (map back_of s.backs) (steps.Step n a.id k) (member_map step_of s.calls (n, a, k) e))

pub back_step_in : (s : Automaton) (x c : ℕ) (a : Letter) (k : ℕ) → Member s.backs (x, c, a, k) → Member (steps_of s) (steps.Back x c a.id k)
back_step_in s x c a k e =
    member_rest (map step_of s.insides) (map step_of s.calls ++ map back_of s.backs) (steps.Back x c a.id k)
    (member_rest (map step_of s.calls) (map back_of s.backs) (steps.Back x c a.id k) (member_map back_of s.backs (x, c, a, k) e))

-- ---- lists in turn

led_more : (all : List NamedStep) (xs ys : List ℕ) (n : ℕ) → (n ≡ 0) ⊎ IsLedTo all xs n → (n ≡ 0) ⊎ IsLedTo all (xs ++ ys) n
led_more all xs ys n (inl e) = inl e
led_more all xs ys n (inr h) = inr (record {
  step = h.step;
  among = h.among;
  leads = h.leads;
  begins = all_mapped (Member xs) (Member (xs ++ ys)) (sources h.step) (λ x m. member_front xs ys x m) h.begins;
})

turns_joined : (all : List NamedStep) (xs ys : List ℕ) → AreFoundInTurn all xs → AreFoundInTurn all ys → AreFoundInTurn all (xs ++ ys)
turns_joined all [] ys h k = k
turns_joined all (x ∷ xs) ys h k = (led_more all xs ys x h.0, turns_joined all xs ys h.1 k)

first_reached : (all : List NamedStep) → IsReachable all 0
first_reached all = (0 ∷ [], inl refl, (inl refl, tt))

step_reached : (all : List NamedStep) (n l k : ℕ) → Member all (steps.Step n l k) → IsReachable all n → IsReachable all k
step_reached all n l k m h =
    let e : IsLedTo all h.0 k = record { step = steps.Step n l k; among = m; leads = refl; begins = (h.1, tt) } in
    (k ∷ h.0, inl refl, (inr e, h.2))

back_reached : (all : List NamedStep) (x c l k : ℕ) → Member all (steps.Back x c l k) → IsReachable all x → IsReachable all c → IsReachable all k
back_reached all x c l k m h i =
    let e : IsLedTo all (h.0 ++ i.0) k =
    record { step = steps.Back x c l k; among = m; leads = refl; begins = (member_front h.0 i.0 x h.1, (member_rest h.0 i.0 c i.1, tt)) } in
    (k ∷ (h.0 ++ i.0), inl refl, (inr e, turns_joined all h.0 i.0 h.2 i.2))

pub all_reached : (nodes : List OutlineNode) (s tree : Automaton) → IsPart tree s → ((n : ℕ) → n < length nodes → IsReached tree (entry_of nodes n) n) → (n : ℕ) → n < length nodes →
    IsReachable (steps_of s) n
all_reached nodes s tree p r n l = kept_everywhere tree (IsReachable (steps_of s)) (entry_of nodes n) n (record {
  insides = λ q a k e h. step_reached (steps_of s) q a.id k (inside_step_in s q a k (p.insides q a k e)) h;
  calls = λ q a k e h. step_reached (steps_of s) q a.id k (call_step_in s q a k (p.calls q a k e)) h;
  backs = λ x c a k e h i. back_reached (steps_of s) x c a.id k (back_step_in s x c a k (p.backs x c a k e)) h i;
}) (first_reached (steps_of s)) (r n l)
