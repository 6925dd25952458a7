-- What a round makes of a kept word, and what a race keeps.
use Rattle.std.specs.Prelude.{◌≡◌, ◌<◌, ◌≤◌, ℕ, Bool, true, false, List, [], ◌∷◌, length, Option, None, Some, IfSome}
use Rattle.std.specs.List.{AllByRecursion}
use Rattle.nwa_base.specs.declared.letters.Letter.{Letter}
use Rattle.nwa_base.specs.Automata.{Automaton}
use Rattle.nwa_base.specs.Acceptance.{Accepts}
use Rattle.letter_acts.specs.Invariant.{Graph, alphabet_of}
use Rattle.typed_tree.specs.TypedTree.{TypedProgram}
use Rattle.lowered_graph.specs.Lowered.{lowered}
use Rattle.lowered_graph.specs.Laws.{IsExactWord}
use Rattle.race_core.specs.declared.ends.Cause.{Cause}
use Rattle.race_core.specs.declared.ends.Cause.TheVariants as causes
use Rattle.race_core.specs.declared.ends.End.{End}
use Rattle.race_core.specs.declared.ends.End.TheVariants as ends
use Rattle.race_core.specs.declared.events.Entry.{Entry}
use Rattle.race_core.specs.Races.{Race}
use Rattle.itp_automaton.specs.Certified.{Certificate, IsCertified}
use Rattle.itp_automaton.specs.Saturated.{IsSaturated}
use Rattle.race_rounds.specs.declared.limits.Limits.{Limits}
use Rattle.race_rounds.specs.Ends.{CauseMeets, SaysOfWord, EndMeets}
use Rattle.race_rounds.specs.declared.refining.Refined.{Refined}
use Rattle.race_rounds.specs.declared.refining.Refined.TheVariants as refined
use Rattle.race_rounds.specs.declared.settling.Settled.{Settled}
use Rattle.race_rounds.specs.declared.settling.Settled.TheVariants as settled

-- an automaton of the alphabet of the graph that is certified, saturated, and accepts the word
pub record IsEvidence (g : Graph) (w : List Letter) (c : Certificate) : Type 0 where
  pub certified : IsCertified (alphabet_of g) c
  pub saturated : IsSaturated (alphabet_of g) c
  pub own : Accepts c.automaton w

abbrev pub automaton_in : Certificate → Automaton
automaton_in c = c.automaton

-- what is made of a word whose rows are refuted
abbrev pub IsRefined : TypedProgram → Limits → ℕ → List Letter → Refined → Type 0
IsRefined t l n w (refined.Evidence c) = IsEvidence (lowered t) w c
IsRefined t l n w (refined.Unknown cause) = CauseMeets t l n cause w

-- what is made of a kept word, where the history has n entries: an entry that may be added, or an end
abbrev pub SettlesWord : TypedProgram → Limits → ℕ → List Letter → Settled → Type 0
SettlesWord t l n w (settled.Removed entry) = (n < l.rounds) × (entry.word ≡ w) × IsEvidence (lowered t) w entry.evidence
SettlesWord t l n w (settled.Ended end) = SaysOfWord t l n w end

-- what is made of one of the words that are kept
abbrev pub SettlesKept : TypedProgram → Limits → ℕ → Automaton → Settled → Type 0
SettlesKept t l n kept s = (w : List Letter) × Accepts kept w × SettlesWord t l n w s

-- whether nothing is known of a word for its products
abbrev pub is_by_products : Cause → Bool
is_by_products causes.Rounds = false
is_by_products causes.Whole = false
is_by_products causes.Number = false
is_by_products causes.Product = true

abbrev pub ends_by_products : End → Bool
ends_by_products ends.Safe = false
ends_by_products (ends.Unsafe w steps choices) = false
ends_by_products (ends.Unknown cause w) = is_by_products cause

abbrev pub settled_by_products : Settled → Bool
settled_by_products (settled.Removed entry) = false
settled_by_products (settled.Ended end) = ends_by_products end

-- in so many rounds another word is taken where nothing is known of one for its products
abbrev pub rounds_with_others : ℕ
rounds_with_others = 32

-- each of the words that are kept has a coarse letter
abbrev pub AllAreCoarse : Graph → Automaton → Type 0
AllAreCoarse g kept = (w : List Letter) → Accepts kept w → IsExactWord g w → ⊥

-- the entry's automaton is one of the program, certified, saturated, and accepts its word
abbrev pub IsOwn : TypedProgram → Entry Certificate → Type 0
IsOwn t e = IsEvidence (lowered t) e.word e.evidence

-- the entry's automaton is certified for the program, and accepts its word
pub record IsGiven (t : TypedProgram) (e : Entry Certificate) : Type 0 where
  pub certified : IsCertified (alphabet_of (lowered t)) e.evidence
  pub own : Accepts e.evidence.automaton e.word

-- The history begins with the entry that was given, where one was; each other entry is one of the program.
abbrev pub AreOwn : TypedProgram → Option (Entry Certificate) → List (Entry Certificate) → Type 0
AreOwn t None h = AllByRecursion (IsOwn t) h
AreOwn t (Some e) [] = ⊥
AreOwn t (Some e) (x ∷ h) = (x ≡ e) × IsGiven t e × AllByRecursion (IsOwn t) h

-- What the workers keep: the race is one of the program, within the rounds, its history begins with the entry that was given, where one was, each
-- other entry is one of the program, and an end is met.
pub record IsRaceOf (t : TypedProgram) (given : Option (Entry Certificate)) (l : Limits) (r : Race Certificate) : Type 0 where
  pub program : r.program ≡ (lowered t).automaton
  pub limit : r.limit ≡ l.rounds
  pub within : length r.history ≤ l.rounds
  pub own : AreOwn t given r.history
  pub end : IfSome r.end (EndMeets automaton_in t l r.history)
