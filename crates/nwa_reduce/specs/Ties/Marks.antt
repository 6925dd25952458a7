-- What tells states apart.
use Rattle.std.specs.Prelude.{◌≡◌, ◌<◌, ℕ, List, [], ◌∷◌, ◌++◌, Some, map, filter, nat_eq, slice_get, unwrap_or}
use Rattle.nwa_base.specs.declared.letters.Letter.{Letter}
use Rattle.nwa_base.specs.Members.{Member}
use Rattle.nwa_base.specs.Automata.{Automaton}
use Rattle.nwa_reduce.specs.Ties.Naming.{AreDistinct}
use Rattle.nwa_reduce.specs.declared.marking.Mark.{Mark}
use Rattle.nwa_reduce.specs.declared.marking.Mark.TheVariants as marks

-- the leader of a state: itself, where none is in the list
abbrev pub leader_in : List ℕ → ℕ → ℕ
leader_in leaders q = unwrap_or (slice_get leaders q) q

-- the state has the mark: it is final, such an edge leaves it, or such a return edge names it as the state before the call;
-- the ends of edges stand by their leaders
abbrev pub HasMark : Automaton → (ℕ → ℕ) → ℕ → Mark → Type 0
HasMark m lead q marks.Final = Member m.finals q
HasMark m lead q (marks.Inside a r) = (e : ℕ) × Member m.insides (q, a, e) × (lead e ≡ r)
HasMark m lead q (marks.Call a r) = (e : ℕ) × Member m.calls (q, a, e) × (lead e ≡ r)
HasMark m lead q (marks.Back s a r) = (e : ℕ) × Member m.backs (q, s, a, e) × (lead e ≡ r)
HasMark m lead q (marks.Before s a r) = (e : ℕ) × Member m.backs (s, q, a, e) × (lead e ≡ r)

-- the return edges that name p as the state before the call
abbrev pub backs_before : ℕ → List (ℕ × ℕ × Letter × ℕ) → List (ℕ × ℕ × Letter × ℕ)
backs_before p edges = filter (λ e. nat_eq e.1 p) edges

-- the marks by edges of each kind
abbrev pub inside_marks : (ℕ → ℕ) → List (ℕ × Letter × ℕ) → List Mark
inside_marks lead edges = map (λ e. marks.Inside e.1 (lead e.2)) edges

abbrev pub call_marks : (ℕ → ℕ) → List (ℕ × Letter × ℕ) → List Mark
call_marks lead edges = map (λ e. marks.Call e.1 (lead e.2)) edges

abbrev pub back_marks : (ℕ → ℕ) → List (ℕ × ℕ × Letter × ℕ) → List Mark
back_marks lead edges = map (λ e. marks.Back e.1 e.2 (lead e.3)) edges

abbrev pub before_marks : (ℕ → ℕ) → List (ℕ × ℕ × Letter × ℕ) → List Mark
before_marks lead edges = map (λ e. marks.Before e.0 e.2 (lead e.3)) edges

-- the table grows, and the numbers are those of the marks in it
pub record IsNumbered (old new marks : List Mark) (numbers : List ℕ) : Type 0 where
  pub more : List Mark
  pub table : new ≡ old ++ more
  pub distinct : AreDistinct old → AreDistinct new
  pub sound : (i : ℕ) → Member numbers i → (x : Mark) × Member marks x × (slice_get new i ≡ Some x)
  pub complete : (x : Mark) → Member marks x → (i : ℕ) × Member numbers i × (slice_get new i ≡ Some x)

-- each number is below those after it
abbrev pub Ascends : List ℕ → Type 0
Ascends [] = Unit {0}
Ascends (n ∷ ns) = ((k : ℕ) → Member ns k → n < k) × Ascends ns
