-- The lines of texts by their kinds: a word, and what stands behind it.
use Rattle.std.specs.Prelude.{◌≡◌, ◌≢◌, ◌⊎◌, ℕ, zero, suc, ◌+◌, ◌^◌, ◌<◌, Bool, not, nat_eq, IsTrue, List, [], ◌∷◌, ◌++◌, codes, Option, None, Some}
use Rattle.std.specs.List.{AllByRecursion, flat_map, list_all}
use Rattle.std.specs.Fmt.{decimal}
use Rattle.std.specs.Borrow.{Bor}
use Rattle.proof_form.specs.declared.numerals.Numeral.{Numeral}
use Rattle.proof_form.specs.Numerals.{is_numeral, numeral_text}
use Rattle.proof_form.specs.Predicates.{term_text}
use Rattle.proof_form.specs.Refutations.{refutation_text}
use Rattle.rank_lasso.specs.declared.lasso_ranks.lassos.LassoFault.{LassoFault}
use Rattle.rank_lasso.specs.declared.lasso_ranks.lassos.LassoFault.TheVariants.{Syntax, BadName, BadStep, Memory}
use Rattle.rank_lasso.specs.LassoText.{letters_text, AreShort}
use Rattle.rank_lasso.specs.RankingText.{is_rank_term, IsProofForm}

-- ---- bytes

-- the byte is not this one
abbrev pub differs : ℕ → ℕ → Bool
differs end b = not (nat_eq b end)

-- none of the bytes is this one
abbrev pub HasNo : ℕ → List ℕ → Type 0
HasNo end bs = IsTrue (list_all (differs end) bs)

-- nothing follows, or a space does
abbrev pub IsBreak : List ℕ → Type 0
IsBreak [] = Unit {0}
IsBreak (b ∷ bs) = b ≡ 32

-- A word stands there behind a space, up to the next space or the end; or no space does.
abbrev pub ReadsWord : List ℕ → Option (Bor (List ℕ) × Bor (List ℕ)) → Type 0
ReadsWord bytes None = (rest : List ℕ) → bytes ≢ 32 ∷ rest
ReadsWord bytes (Some r) = HasNo 32 r.0.now × IsBreak r.1.now × (bytes ≡ 32 ∷ (r.0.now ++ r.1.now))

-- ---- values and their texts

-- the bytes are the text of such a value
abbrev pub Spells : {A : Type 0} → (A → Type 0) → (A → List ℕ) → List ℕ → Type 0
Spells {A} P text bytes = (x : A) × P x × (bytes ≡ text x)

-- Such a value is at the front, and behind it nothing or a space; or none is.
abbrev pub ReadsItem : {A : Type 0} → (A → Type 0) → (A → List ℕ) → List ℕ → Option (A × Bor (List ℕ)) → Type 0
ReadsItem {A} P text bytes None = (x : A) (rest : List ℕ) → P x → IsBreak rest → bytes ≢ text x ++ rest
ReadsItem P text bytes (Some r) = P r.0 × IsBreak r.1.now × (bytes ≡ text r.0 ++ r.1.now)

-- The bytes are the text of this value, as it is viewed; or of none.
abbrev pub ReadsAll : {V A : Type 0} → (V → A) → (A → Type 0) → (A → List ℕ) → List ℕ → Option V → Type 0
ReadsAll view P text bytes None = Spells P text bytes → ⊥
ReadsAll view P text bytes (Some v) = P (view v) × (bytes ≡ text (view v))

-- ---- lines

-- a word, what stands behind it, and the end of the line
abbrev pub line_text : List ℕ → List ℕ → List ℕ
line_text word content = word ++ (content ++ 10 ∷ [])

-- Such a line is at the front, and what stands behind it; or none is.
abbrev pub ReadsLine : List ℕ → List ℕ → Option (Bor (List ℕ) × Bor (List ℕ)) → Type 0
ReadsLine word text None = (content rest : List ℕ) → HasNo 10 content → text ≢ line_text word content ++ rest
ReadsLine word text (Some r) = HasNo 10 r.0.now × (text ≡ line_text word r.0.now ++ r.1.now)

-- what may stand behind the word of a line
pub data Content : Type 0 where
  nothing : Content
  letters : Content
  some_letters : Content
  terms : Content
  number : Content
  natural : Content
  tree : Content

-- one letter or more, of 32 bits
abbrev pub AreSomeShort : List ℕ → Type 0
AreSomeShort ns = AreShort ns × (ns ≢ [])

-- terms of the grammar
abbrev pub AreTerms : List (Numeral × List ℕ) → Type 0
AreTerms ts = AllByRecursion (λ t. IsTrue (is_rank_term t)) ts

-- a numeral of the grammar
abbrev pub IsNumeral : Numeral → Type 0
IsNumeral n = IsTrue (is_numeral n)

abbrev pub IsContent : Content → List ℕ → Type 0
IsContent nothing bytes = bytes ≡ []
IsContent letters bytes = Spells AreShort letters_text bytes
IsContent some_letters bytes = Spells AreSomeShort letters_text bytes
IsContent terms bytes = Spells AreTerms (flat_map term_text) bytes
IsContent number bytes = Spells IsNumeral numeral_text bytes
IsContent natural bytes = Spells (λ n. n < 2 ^ 64) decimal bytes
IsContent tree bytes = Spells IsProofForm refutation_text bytes

pub record LineKind : Type 0 where
  pub word : List ℕ
  pub content : Content

-- no line of this kind is at the front
abbrev pub Lacks : LineKind → List ℕ → Type 0
Lacks k text = (content rest : List ℕ) → IsContent k.content content → text ≢ line_text k.word content ++ rest

-- why no line of this kind was read, as the line of that number
abbrev pub IsLineFault : LineKind → ℕ → List ℕ → LassoFault → Type 0
IsLineFault k line text (Syntax n) = (n ≡ line) × Lacks k text
IsLineFault k line text (BadName n) = ⊥
IsLineFault k line text (BadStep n) = ⊥
IsLineFault k line text Memory = Unit {0}

-- Of lines of these kinds the text has this many, one after the other, and then not the next. What is said of the end: of the text behind
-- them all, and of how many lines of it are read.
abbrev pub Stops : (List ℕ → ℕ → Type 0) → List LineKind → List ℕ → ℕ → Type 0
Stops End [] text n = End text n
Stops End (k ∷ ks) text zero = Lacks k text
Stops End (k ∷ ks) text (suc n) =
    (content : List ℕ) × (rest : List ℕ) × IsContent k.content content × (text ≡ line_text k.word content ++ rest) × Stops End ks rest n

-- nothing is to follow, and something does
abbrev pub GoesOn : List ℕ → ℕ → Type 0
GoesOn text n = (n ≡ 0) × (text ≢ [])

-- the fault is none of the end
abbrev pub Never : List ℕ → ℕ → Type 0
Never text n = ⊥

-- The line that cannot stand there is the one behind those that were read; the lines have the numbers from this one on.
abbrev pub IsFaultIn : ℕ → (List ℕ → ℕ → Type 0) → List LineKind → List ℕ → LassoFault → Type 0
IsFaultIn first End ks text (Syntax line) = (n : ℕ) × (line ≡ first + n) × Stops End ks text n
IsFaultIn first End ks text (BadName line) = ⊥
IsFaultIn first End ks text (BadStep line) = ⊥
IsFaultIn first End ks text Memory = Unit {0}

-- why the text does not end where the line of that number would be
abbrev pub IsEndFault : ℕ → List ℕ → LassoFault → Type 0
IsEndFault line text (Syntax n) = (n ≡ line) × (text ≢ [])
IsEndFault line text (BadName n) = ⊥
IsEndFault line text (BadStep n) = ⊥
IsEndFault line text Memory = ⊥

-- ---- the kinds of the lines of texts

abbrev pub kind : List ℕ → Content → LineKind
kind word content = record { word = word; content = content }

abbrev pub stem_kind : LineKind
stem_kind = kind (codes "stem") letters

abbrev pub loop_kind : LineKind
loop_kind = kind (codes "loop") some_letters

abbrev pub rank_kind : LineKind
rank_kind = kind (codes "rank") terms

abbrev pub bound_kind : LineKind
bound_kind = kind (codes "bound ") number

abbrev pub proof_kind : List ℕ → LineKind
proof_kind word = kind word tree

abbrev pub end_kind : LineKind
end_kind = kind (codes "end") nothing

-- a first line, the stem and the loop
abbrev pub way_kinds : List ℕ → List LineKind
way_kinds first = kind first nothing ∷ stem_kind ∷ loop_kind ∷ []

abbrev pub lasso_kinds : List LineKind
lasso_kinds = way_kinds (codes "lasso 1") ++ end_kind ∷ []

-- the lines of a rank behind the loop, and of an exclusion
abbrev pub rank_ending : List LineKind
rank_ending = rank_kind ∷ bound_kind ∷ proof_kind (codes "falls") ∷ proof_kind (codes "bounded") ∷ end_kind ∷ []

abbrev pub excluded_ending : List LineKind
excluded_ending = proof_kind (codes "excluded") ∷ end_kind ∷ []

abbrev pub rank_kinds : List LineKind
rank_kinds = way_kinds (codes "ranking 1") ++ rank_ending

abbrev pub excluded_kinds : List LineKind
excluded_kinds = way_kinds (codes "ranking 1") ++ excluded_ending

-- why the text, which begins at line 4, is neither: one ending goes as far, the other does not begin there
abbrev pub IsEndingFault : List ℕ → LassoFault → Type 0
IsEndingFault text e =
    (IsFaultIn 4 GoesOn rank_ending text e × Lacks (proof_kind (codes "excluded")) text) ⊎
    (IsFaultIn 4 GoesOn excluded_ending text e × Lacks rank_kind text)
