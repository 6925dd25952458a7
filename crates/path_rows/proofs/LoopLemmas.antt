-- Lists that loops make from the front: what one step more adds.
use Rattle.std.proofs.Common.{◌≡◌, ◌∙◌, ℕ, zero, suc, ◌+◌, ◌<◌, ◌≤◌, List, [], ◌∷◌, ◌++◌, length, take, drop, get_or, append_assoc, refl, sym, ap, arith}
use Rattle.std.specs.Prelude.{map, reverse, slice_set}
use Rattle.std.specs.Global.{Vec}
use Rattle.std.proofs.lemmas.List.{take_more, drop_more, length-take-le, map-append, reverse-append}
use Rattle.lin_rows.specs.Rows.{LinearRow}
use Rattle.letter_acts.specs.FrameRows.Rows.{equal_row}
use Rattle.path_rows.specs.Versions.{PathStage, entry_rows, written_over}
use Rattle.path_rows.specs.Paths.{repeated}

-- ---- entry rows

entries_joined : (n m : ℕ) (gs hs : List ℕ) → m ≡ n + length gs → entry_rows n (gs ++ hs) ≡ entry_rows n gs ++ entry_rows m hs
entries_joined n m [] hs e = ap (λ (k : ℕ). entry_rows k hs) (let i : n ≡ m = omega (arith, e) in i)
entries_joined n m (g ∷ gs) hs e = ap (λ (rs : List LinearRow). equal_row n g ∷ rs) (entries_joined (suc n) m gs hs (omega (arith, e)))

pub entries_next : (n i : ℕ) (gs : List ℕ) (d : ℕ) (now new : List LinearRow) → i < length gs → now ≡ entry_rows n (take i gs) →
    new ≡ now ++ equal_row (n + i) (get_or gs i d) ∷ [] → new ≡ entry_rows n (take (i + 1) gs)
entries_next n i gs d now new l h e =
    e ∙ ap (λ (rs : List LinearRow). rs ++ equal_row (n + i) (get_or gs i d) ∷ []) h ∙
    sym (ap (entry_rows n) (take_more gs i d l) ∙
    entries_joined n (n + i) (take i gs) (get_or gs i d ∷ []) (let k = length-take-le i gs (omega (arith, l)) in omega (arith, k)))

-- ---- versions written over

drop_here : (xs : List ℕ) (i : ℕ) → i < length xs → drop i xs ≡ get_or xs i 0 ∷ drop (i + 1) xs
drop_here xs i l = drop_more xs i 0 l

pub written_next : (start now cs news : List ℕ) (i : ℕ) → i < length cs → i < length news → written_over now (drop i cs) (drop i news) ≡ written_over start cs news →
    written_over (slice_set now (get_or cs i 0) (get_or news i 0)) (drop (i + 1) cs) (drop (i + 1) news) ≡ written_over start cs news
written_next start now cs news i l k h =
    sym (ap (λ (xs : List ℕ). written_over now xs (drop i news)) (drop_here cs i l) ∙
    ap (λ (ys : List ℕ). written_over now (get_or cs i 0 ∷ drop (i + 1) cs) ys) (drop_here news i k)) ∙ h

dropped_all : (xs : List ℕ) (i : ℕ) → length xs ≤ i → drop i xs ≡ []
dropped_all [] zero l = refl
dropped_all [] (suc i) l = refl
dropped_all (x ∷ xs) zero l = absurd (omega arith)
dropped_all (x ∷ xs) (suc i) l = dropped_all xs i (omega arith)

no_news : (now cs : List ℕ) → written_over now cs [] ≡ now
no_news now [] = refl
no_news now (c ∷ cs) = refl

pub written_short : (start now cs news : List ℕ) (i : ℕ) → length news ≤ i → written_over now (drop i cs) (drop i news) ≡ written_over start cs news → now ≡ written_over start cs news
written_short start now cs news i l h = sym (ap (λ (ys : List ℕ). written_over now (drop i cs) ys) (dropped_all news i l) ∙ no_news now (drop i cs)) ∙ h

pub written_ends : (start now cs news : List ℕ) (i : ℕ) → length cs ≤ i → written_over now (drop i cs) (drop i news) ≡ written_over start cs news → now ≡ written_over start cs news
written_ends start now cs news i l h = sym (ap (λ (ys : List ℕ). written_over now ys (drop i news)) (dropped_all cs i l)) ∙ h

repeated_more : {X : Type 0} (n : X) (k : ℕ) → repeated n (suc k) ≡ repeated n k ++ n ∷ []
repeated_more n zero = refl
repeated_more {X} n (suc k) = ap (λ (l : List X). n ∷ l) (repeated_more n k)

pub repeated_next : {X : Type 0} (n : X) (i : ℕ) (old now new : List X) → now ≡ old ++ repeated n i → new ≡ now ++ n ∷ [] → new ≡ old ++ repeated n (i + 1)
repeated_next {X} n i old now new e h =
    h ∙ ap (λ (xs : List X). xs ++ n ∷ []) e ∙ append_assoc old (repeated n i) (n ∷ []) ∙
    ap (λ (xs : List X). old ++ xs) (sym (ap (repeated n) (let k : i + 1 ≡ suc i = omega arith in k) ∙ repeated_more n i))

pub same_stage : (a b : PathStage) → a.made ≡ b.made → a.here ≡ b.here → a.saved ≡ b.saved → a ≡ b
same_stage a b e f g = λ i. record { made = e i; here = f i; saved = g i }

-- what is saved last is the innermost
pub saved_pushed : (old new : List (Vec ℕ)) (v : Vec ℕ) → new ≡ old ++ v ∷ [] → reverse (map (λ (x : Vec ℕ). x.items) new) ≡ v.items ∷ reverse (map (λ (x : Vec ℕ). x.items) old)
saved_pushed old new v e =
    ap (λ (l : List (Vec ℕ)). reverse (map (λ (x : Vec ℕ). x.items) l)) e ∙ ap reverse (map-append (λ (x : Vec ℕ). x.items) old (v ∷ [])) ∙
    reverse-append (map (λ (x : Vec ℕ). x.items) old) (v.items ∷ [])
