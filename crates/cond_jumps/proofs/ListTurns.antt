-- Lists that are made one by one from other lists.
use Rattle.std.proofs.Common.{◌≡◌, ℕ, ◌+◌, ◌<◌, List, [], ◌∷◌, ◌++◌, map, length, get_or, drop, append_assoc, sym, ◌∙◌, ap}
use Rattle.std.proofs.lemmas.List.{drop_more}
use Rattle.cond_jumps.specs.declared.conj.Conj.{Conj}
use Rattle.cond_jumps.specs.Conjs.{conjunction, conjunctions}
use Rattle.cond_jumps.specs.Conjunctions.{Conjunction, joined}
use Rattle.cond_jumps.specs.Ties.JoinView.{each_moved}
use Rattle.cond_jumps.specs.Moving.{moved}
use Rattle.cond_jumps.proofs.MovingLemmas.{map_append}

-- the first of the members that are left
dropped : {X : Type 0} (xs : List X) (i : ℕ) (x : X) → i < length xs → x ≡ get_or xs i x → drop i xs ≡ x ∷ drop (i + 1) xs
dropped xs i x l h = drop_more xs i x l ∙ ap (λ z. z ∷ drop (i + 1) xs) (sym h)

-- one member more is made
pub mapped_turn : {X Y : Type 0} (f : X → Y) (xs : List X) (i : ℕ) (x : X) (done new whole : List Y) (y : Y) → i < length xs → x ≡ get_or xs i x →
    new ≡ done ++ y ∷ [] → y ≡ f x → done ++ map f (drop i xs) ≡ whole → new ++ map f (drop (i + 1) xs) ≡ whole
mapped_turn f xs i x done new whole y l h e k w =
    (λ j. e j ++ map f (drop (i + 1) xs)) ∙ append_assoc done (y ∷ []) (map f (drop (i + 1) xs)) ∙ (λ j. done ++ k j ∷ map f (drop (i + 1) xs))
    ∙ sym (ap (λ us. done ++ map f us) (dropped xs i x l h)) ∙ w

-- a conjunction is joined to one more of a list
pub joined_turn : (c : Conjunction) (w : ℕ) (xs : List Conj) (i : ℕ) (x y : Conj) (done new : List Conj) (whole : List Conjunction) → i < length xs → x ≡ get_or xs i x →
    new ≡ done ++ y ∷ [] → conjunction y ≡ joined c (moved w c.helpers (conjunction x)) →
    conjunctions done ++ map (joined c) (map (moved w c.helpers) (conjunctions (drop i xs))) ≡ whole →
    conjunctions new ++ map (joined c) (map (moved w c.helpers) (conjunctions (drop (i + 1) xs))) ≡ whole
joined_turn c w xs i x y done new whole l h e k v =
    let rest : List Conjunction = map (joined c) (map (moved w c.helpers) (conjunctions (drop (i + 1) xs))) in
    let a : conjunctions new ≡ conjunctions done ++ conjunction y ∷ [] = ap conjunctions e ∙ map_append conjunction done (y ∷ []) in
    (λ j. a j ++ rest) ∙ append_assoc (conjunctions done) (conjunction y ∷ []) rest ∙ (λ j. conjunctions done ++ k j ∷ rest)
    ∙ sym (ap (λ (us : List Conj). conjunctions done ++ map (joined c) (map (moved w c.helpers) (conjunctions us))) (dropped xs i x l h)) ∙ v

-- one more of a list is joined to each of another
pub each_turn : (w : ℕ) (xs : List Conj) (i : ℕ) (x : Conj) (done new : List Conj) (ds whole : List Conjunction) → i < length xs → x ≡ get_or xs i x →
    conjunctions new ≡ conjunctions done ++ map (joined (conjunction x)) (map (moved w x.helpers) ds) →
    conjunctions done ++ each_moved w (conjunctions (drop i xs)) ds ≡ whole → conjunctions new ++ each_moved w (conjunctions (drop (i + 1) xs)) ds ≡ whole
each_turn w xs i x done new ds whole l h e v =
    let rest : List Conjunction = each_moved w (conjunctions (drop (i + 1) xs)) ds in
    (λ j. e j ++ rest) ∙ append_assoc (conjunctions done) (map (joined (conjunction x)) (map (moved w x.helpers) ds)) rest
    ∙ sym (ap (λ (us : List Conj). conjunctions done ++ each_moved w (conjunctions us) ds) (dropped xs i x l h)) ∙ v
