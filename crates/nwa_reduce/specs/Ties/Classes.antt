-- Classes of states with one signature.
use Rattle.std.specs.Prelude.{◌≡◌, ◌≤◌, ℕ, List, map, length, Option, Some, slice_get}
use Rattle.std.specs.Global.{Vec}
use Rattle.nwa_base.specs.declared.letters.Letter.{Letter}
use Rattle.nwa_base.specs.Automata.{Automaton}
use Rattle.nwa_reduce.specs.Images.{IsLike}
use Rattle.nwa_reduce.specs.Ties.Naming.{AreDistinct}
use Rattle.nwa_reduce.specs.declared.marking.Mark.{Mark}
use Rattle.nwa_reduce.specs.Ties.Marks.{leader_in, backs_before}
use Rattle.nwa_reduce.specs.Ties.Signatures.{IsSignature}

-- The automaton, its return edges by the state before the call, the table of marks; the signature and the head of each class;
-- and the leader and the class of each of the first states, where the leader is the head of the class.
pub record Classed : Type 0 where
  pub nwa : Automaton
  pub returns : ℕ → List (ℕ × ℕ × Letter × ℕ)
  pub table : List Mark
  pub signatures : List (List ℕ)
  pub heads : List ℕ
  pub leaders : List ℕ
  pub names : List (Option ℕ)

-- the numbers were the signature of the state when fewer states had leaders
pub record WasSigned (s : Classed) (q : ℕ) (numbers : List ℕ) : Type 0 where
  pub lead : ℕ → ℕ
  pub earlier : (e : ℕ) → leader_in s.leaders (lead e) ≡ leader_in s.leaders e
  pub signature : IsSignature s.nwa lead q s.table numbers

-- each state is alike its leader, and where each has its own class there are no leaders but the states themselves
pub record IsClassed (s : Classed) : Type 0 where
  pub returns : (p : ℕ) → s.returns p ≡ backs_before p s.nwa.backs
  pub table : AreDistinct s.table
  pub signatures : AreDistinct s.signatures
  pub long : length s.names ≡ length s.leaders
  pub signed_long : length s.heads ≡ length s.signatures
  pub few : length s.heads ≤ length s.leaders
  pub named : (p : ℕ) (o : Option ℕ) → slice_get s.names p ≡ Some o →
      (c : ℕ) × (h : ℕ) × (o ≡ Some c) × (slice_get s.heads c ≡ Some h) × (slice_get s.leaders p ≡ Some h)
  pub head : (c h : ℕ) → slice_get s.heads c ≡ Some h → (slice_get s.leaders h ≡ Some h) × (slice_get s.names h ≡ Some (Some c))
  pub settled : (p h : ℕ) → slice_get s.leaders p ≡ Some h → slice_get s.leaders h ≡ Some h
  pub signed : (c h : ℕ) (numbers : List ℕ) → slice_get s.heads c ≡ Some h → slice_get s.signatures c ≡ Some numbers → WasSigned s h numbers
  pub alike : (p h : ℕ) → slice_get s.leaders p ≡ Some h →
      IsLike s.nwa (leader_in s.leaders) p h × IsLike s.nwa (leader_in s.leaders) h p
  pub whole : length s.leaders ≤ length s.heads → (c h : ℕ) → slice_get s.heads c ≡ Some h → h ≡ c

-- the members of each vector
abbrev pub lists_of : List (Vec ℕ) → List (List ℕ)
lists_of vectors = map (λ v. v.items) vectors
