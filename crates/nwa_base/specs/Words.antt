-- Nested words: lists of letters in which each return has a match. Calls may be pending (Alur and Madhusudan, 2009).
use Rattle.std.specs.Prelude.{◌≡◌, ℕ, zero, suc, Bool, true, false, List, [], ◌∷◌, length, Option, None, Some, IsSome}
use Rattle.nwa_base.specs.declared.letters.Kind.{Kind}
use Rattle.nwa_base.specs.declared.letters.Kind.TheVariants.{Inside, Call, Back}
use Rattle.nwa_base.specs.declared.letters.Letter.{Letter}

-- what a letter of that kind makes of a number of open calls; false where a return finds none
abbrev pub goes_on : Kind → ℕ → (ℕ → Bool) → Bool
goes_on Inside calls rest = rest calls
goes_on Call calls rest = rest (suc calls)
goes_on Back zero rest = false
goes_on Back (suc calls) rest = rest calls

-- after a number of open calls each return finds one
abbrev pub are_matched : ℕ → List Letter → Bool
are_matched calls [] = true
are_matched calls (a ∷ w) = goes_on a.kind calls (λ n. are_matched n w)

-- Counting back over a letter of that kind: a return is skipped with its call, a call is the match where nothing is
-- to be skipped. `here` is what the call is known by.
abbrev pub counted : {X : Type 0} → Kind → X → ℕ → (ℕ → Option X) → Option X
counted Inside here skip rest = rest skip
counted Call here zero rest = Some here
counted Call here (suc skip) rest = rest skip
counted Back here skip rest = rest (suc skip)

-- The place of the call that matches a return: the last call before it that no return between them matches, found by
-- counting. `front` are the letters before the return, last first; so many calls are skipped.
abbrev pub match_back : List Letter → ℕ → Option ℕ
match_back [] skip = None
match_back (a ∷ front) skip = counted a.kind (length front) skip (λ n. match_back front n)

-- each return has a match, after the letters in front, last first
abbrev pub HasMatches : List Letter → List Letter → Type 0
HasMatches front [] = Unit {0}
HasMatches front (a ∷ w) = (a.kind ≡ Back → IsSome (match_back front 0)) × HasMatches (a ∷ front) w
