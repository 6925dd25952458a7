-- Symbols with given signs, taken apart by their first sign.
use Rattle.std.proofs.Common.{◌≡◌, List, [], ◌∷◌, ◌++◌}
use Rattle.boogie_parse.specs.declared.symbols.Sign.{Sign}
use Rattle.boogie_parse.specs.declared.symbols.Symbol.{Symbol}
use Rattle.boogie_parse.specs.Spelling.Respelled.{signs_of}

-- The symbols begin with what `Reads` reads as a value like the one wanted, and the signs `behind` follow it.
pub record ReadsAgain {X : Type 0} (Reads : List Symbol → X → List Symbol → Type 0) (IsLike : X → Type 0) (us : List Symbol) (behind : List Sign) : Type 0 where
  pub value : X
  pub rest : List Symbol
  pub reads : Reads us value rest
  pub like : IsLike value
  pub follows : signs_of rest ≡ behind

-- However symbols with these signs stand, they are read as what is x apart from places.
abbrev pub Respells : {X : Type 0} → (List Symbol → X → List Symbol → Type 0) → (X → X) → List Sign → X → Type 0
Respells {X} Reads bare spelled x =
    (us : List Symbol) (behind : List Sign) → signs_of us ≡ spelled ++ behind → ReadsAgain Reads (λ y. bare y ≡ bare x) us behind

pub no_sign : {X : Type 0} {s : X} {ss : List X} → [] ≡ s ∷ ss → ⊥
no_sign e = cc

pub first_sign : {X : Type 0} {s t : X} {ss ts : List X} → t ∷ ts ≡ s ∷ ss → t ≡ s
first_sign e = cc

pub more_signs : {X : Type 0} {s t : X} {ss ts : List X} → t ∷ ts ≡ s ∷ ss → ts ≡ ss
more_signs e = cc

-- where the signs have a first one, the symbols have one with that sign
pub led_by : {X : Type 0} {Reads : List Symbol → X → List Symbol → Type 0} {IsLike : X → Type 0} {s : Sign} {ss behind : List Sign} (us : List Symbol) → signs_of us ≡ s ∷ ss
    → ((t : Symbol) (m : List Symbol) → t.sign ≡ s → signs_of m ≡ ss → ReadsAgain Reads IsLike (t ∷ m) behind) → ReadsAgain Reads IsLike us behind
led_by [] e next = absurd (no_sign e)
led_by (t ∷ m) e next = next t m (first_sign e) (more_signs e)

-- the same behind symbols that are known
pub led_after : {X : Type 0} {Reads : List Symbol → X → List Symbol → Type 0} {IsLike : X → Type 0} {s : Sign} {ss behind : List Sign} (front : List Symbol → List Symbol) (us : List Symbol)
    → signs_of us ≡ s ∷ ss → ((t : Symbol) (m : List Symbol) → t.sign ≡ s → signs_of m ≡ ss → ReadsAgain Reads IsLike (front (t ∷ m)) behind) → ReadsAgain Reads IsLike (front us) behind
led_after front [] e next = absurd (no_sign e)
led_after front (t ∷ m) e next = next t m (first_sign e) (more_signs e)

-- what was read, and the symbol behind it
pub record ReadsUpTo {X : Type 0} (Reads : List Symbol → X → List Symbol → Type 0) (IsLike : X → Type 0) (us : List Symbol) (s : Sign) (behind : List Sign) : Type 0 where
  pub value : X
  pub next : Symbol
  pub rest : List Symbol
  pub reads : Reads us value (next ∷ rest)
  pub like : IsLike value
  pub is : next.sign ≡ s
  pub follows : signs_of rest ≡ behind

up_to_by : {X : Type 0} {Reads : List Symbol → X → List Symbol → Type 0} {IsLike : X → Type 0} {us : List Symbol} {s : Sign} {behind : List Sign} (x : X) (rest : List Symbol)
    → Reads us x rest → IsLike x → signs_of rest ≡ s ∷ behind → ReadsUpTo Reads IsLike us s behind
up_to_by x [] d like e = absurd (no_sign e)
up_to_by x (t ∷ m) d like e = record { value = x; next = t; rest = m; reads = d; like = like; is = first_sign e; follows = more_signs e }

pub up_to : {X : Type 0} {Reads : List Symbol → X → List Symbol → Type 0} {IsLike : X → Type 0} {us : List Symbol} {s : Sign} {behind : List Sign}
    → ReadsAgain Reads IsLike us (s ∷ behind) → ReadsUpTo Reads IsLike us s behind
up_to a = up_to_by a.value a.rest a.reads a.like a.follows
