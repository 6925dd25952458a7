-- Triples over the states, tried letter by letter until all are settled.
use Rattle.std.proofs.Common.{◌≡◌, ◌∙◌, ℕ, ◌+◌, ◌<◌, List, [], ◌∷◌, ◌++◌, length, take, get_or, Option, None, Some, Result, Ok, Err, true, false, suc, refl, sym, ap, subst, inl, inr, arith}
use Rattle.std.specs.Prelude.{◌==◌, IfOk, map, slice_get}
use Rattle.std.proofs.lemmas.Bool.{eqb-true}
use Rattle.std.proofs.lemmas.List.{take_more, map-append}
use Rattle.std.specs.declared.vec.Vec.{Vec}
use Rattle.std.specs.declared.alloc.Global.{Global}
use Rattle.std.specs.List.{AllByRecursion, AllZip, flat_map}
use Rattle.nwa_base.specs.Members.{Member}
use Rattle.nwa_base.proofs.MemberLemmas.{member_front, member_rest, member_split}
use Rattle.letter_acts.specs.Acts.{PlainAct, inside_act, call_act, back_act, Alphabet}
use Rattle.triple_rows.specs.declared.triples.Scoped.{Scoped}
use Rattle.triple_rows.specs.declared.triples.Triple.{Triple}
use Rattle.triple_rows.specs.Triples.{IsScoped, InsideAgrees, CallAgrees, BackAgrees, Agrees}
use Rattle.triple_rows.specs.Proofs.{PlainProof}
use Rattle.hoare_check.specs.declared.halves.Half.{Half}
use Rattle.hoare_check.specs.Decided.{RefutesUncut}
use Rattle.hoare_check.specs.Halves.{IsSourceHalf, IsTargetHalf}
use Rattle.itp_automaton.specs.declared.settling.Target.{Target}
use Rattle.itp_automaton.specs.declared.sources.Source.{Source}
use Rattle.itp_automaton.specs.declared.sources.Source.TheVariants.{Inside, Call, Back}
use Rattle.itp_automaton.specs.Settling.{IsListed, SettlesTriple, NamesStates, IsGrounded, letter_in, IsWithin, state_at, triple_from, AgreesTo, AreSources, Adds, SettledBelow, SettledBy, IsTarget, AreTargets, SettlesTargets, AreAllBelow, IsFoundBy}
use Rattle.itp_automaton.proofs.StateLaws.{below_or_last, got_at, member_at}
use Rattle.itp_automaton.proofs.BuiltLaws.{all_member, all_push}
use Rattle.itp_automaton.proofs.SourceLaws.{state_listed, in_scope}

-- ---- lists

pub all_later : {X : Type 0} (P Q : X → Type 0) (xs : List X) → ((x : X) → P x → Q x) → AllByRecursion P xs → AllByRecursion Q xs
all_later P Q [] f h = tt
all_later P Q (x ∷ xs) f h = (f x h.0, all_later P Q xs f h.1)

pub all_append : {X : Type 0} (P : X → Type 0) (xs ys : List X) → AllByRecursion P xs → AllByRecursion P ys → AllByRecursion P (xs ++ ys)
all_append P [] ys h k = k
all_append P (x ∷ xs) ys h k = (h.0, all_append P xs ys h.1 k)

-- a list that is seen to be empty
pub none_left : {X : Type 0} (xs : List X) → (length xs == 0) ≡ true → xs ≡ []
none_left [] e = refl
none_left (x ∷ xs) e = absurd (let z : suc (length xs) ≡ 0 = eqb-true (suc (length xs)) 0 e in omega (arith, z))

-- one that is seen not to be
pub some_left : {X : Type 0} (xs : List X) → (length xs == 0) ≡ false → 0 < length xs
some_left [] e = absurd (let z : true ≡ false = e in cc)
some_left (x ∷ xs) e = omega arith

-- what holds of the value of an `Ok`, where it is one
pub at_ok : {T E : Type 0} (r : Result T E) (P : T → Type 0) (v : T) (Q : Type 0) → IfOk r P → r ≡ Ok v → ((x : T) → x ≡ v → P x → Q) → Q
at_ok (Ok w) P v Q h e f = let same : w ≡ v = cc in f w same h
at_ok (Err x) P v Q h e f = absurd cc

-- ---- proofs that are added

pub settled_later : (al : Alphabet) (old new : List PlainProof) (t : Triple) → ((p : PlainProof) → Member old p → Member new p) → SettlesTriple al old t → SettlesTriple al new t
settled_later al old new t more s a r = let h = s a r in (h.0, more h.0 h.1, h.2)

pub adds_none : (al : Alphabet) (states : List Scoped) (proofs : List PlainProof) → Adds al states proofs proofs
adds_none al states proofs = record { kept = λ p m. m; grounded = λ g. g }

pub adds_more : (al : Alphabet) (states : List Scoped) (old now new : List PlainProof) → Adds al states old now → Adds al states now new → Adds al states old new
adds_more al states old now new a b = record { kept = λ p m. b.kept p (a.kept p m); grounded = λ g. b.grounded (a.grounded g) }

pub adds_found : (al : Alphabet) (states : List Scoped) (old more new : List PlainProof) → AllByRecursion (IsGrounded al states) more → new ≡ old ++ more → Adds al states old new
adds_found al states old more new h e = record {
  kept = λ p m. subst (λ (l : List PlainProof). Member l p) (sym e) (member_front old more p m);
  grounded = λ g. subst (λ (l : List PlainProof). AllByRecursion (IsGrounded al states) l) (sym e) (all_append (IsGrounded al states) old more g h);
}

-- more proofs behind those that are known
pub behind_known : (known old new : List PlainProof) → ((p : PlainProof) → Member old p → Member new p) → (p : PlainProof) → Member (known ++ old) p → Member (known ++ new) p
behind_known known old new more p m = elim (member_split known old p m) [
  | inl k ↦ member_front known new p k
  | inr k ↦ member_rest known new p (more p k)
]

-- ---- triples from a source

pub names_from : (states : List Scoped) (source : Source) (letter : ℕ) (after : Scoped) → IsWithin (length states) source → Member states after → NamesStates states (triple_from states source letter after)
names_from states (Inside q) letter after h m = (state_listed states q h, (m, tt))
names_from states (Call q) letter after h m = (state_listed states q h, (m, tt))
names_from states (Back q p) letter after h m = (state_listed states q h.0, (state_listed states p h.1, (m, tt)))

-- the half of a source is that to each target
pub source_half_of : (al : Alphabet) (states : List Scoped) (source : Source) (letter : ℕ) (a b : Scoped) (half : Option Half) →
    IsSourceHalf al (triple_from states source letter a) half → IsSourceHalf al (triple_from states source letter b) half
source_half_of al states (Inside q) letter a b None h = h
source_half_of al states (Inside q) letter a b (Some half) h = h
source_half_of al states (Call q) letter a b None h = h
source_half_of al states (Call q) letter a b (Some half) h = h
source_half_of al states (Back q p) letter a b None h = h
source_half_of al states (Back q p) letter a b (Some half) h = h

-- ---- the kind of a letter is that of all its triples

inside_or_call : (al : Alphabet) (o : Option PlainAct) (a b c d : Scoped) → InsideAgrees al o a b → CallAgrees al o c d → ⊥
inside_or_call al None a b c d h k = h
inside_or_call al (Some (inside_act p written helpers rows)) a b c d h k = k
inside_or_call al (Some (call_act caller callee helpers rows)) a b c d h k = h
inside_or_call al (Some (back_act n targets)) a b c d h k = h

inside_or_back : (al : Alphabet) (o : Option PlainAct) (a b c d e : Scoped) → InsideAgrees al o a b → BackAgrees al o c d e → ⊥
inside_or_back al None a b c d e h k = h
inside_or_back al (Some (inside_act p written helpers rows)) a b c d e h k = k
inside_or_back al (Some (call_act caller callee helpers rows)) a b c d e h k = h
inside_or_back al (Some (back_act n targets)) a b c d e h k = h

call_or_back : (al : Alphabet) (o : Option PlainAct) (a b c d e : Scoped) → CallAgrees al o a b → BackAgrees al o c d e → ⊥
call_or_back al None a b c d e h k = h
call_or_back al (Some (inside_act p written helpers rows)) a b c d e h k = h
call_or_back al (Some (call_act caller callee helpers rows)) a b c d e h k = k
call_or_back al (Some (back_act n targets)) a b c d e h k = h

-- the half of a target is that from each source
target_half_of : (al : Alphabet) (states : List Scoped) (s u : Source) (letter : ℕ) (a : Scoped) (half : Option Half) → Agrees al (triple_from states s letter a) →
    Agrees al (triple_from states u letter a) → IsTargetHalf al (triple_from states s letter a) half → IsTargetHalf al (triple_from states u letter a) half
target_half_of al states (Inside q) (Inside r) letter a None g i h = h
target_half_of al states (Inside q) (Inside r) letter a (Some half) g i h = h
target_half_of al states (Inside q) (Call r) letter a half g i h = absurd (inside_or_call al (slice_get al.acts letter) (state_at states q) a (state_at states r) a g i)
target_half_of al states (Inside q) (Back r p) letter a half g i h =
    absurd (inside_or_back al (slice_get al.acts letter) (state_at states q) a (state_at states r) (state_at states p) a g i)
target_half_of al states (Call q) (Inside r) letter a half g i h = absurd (inside_or_call al (slice_get al.acts letter) (state_at states r) a (state_at states q) a i g)
target_half_of al states (Call q) (Call r) letter a None g i h = h
target_half_of al states (Call q) (Call r) letter a (Some half) g i h = h
target_half_of al states (Call q) (Back r p) letter a half g i h =
    absurd (call_or_back al (slice_get al.acts letter) (state_at states q) a (state_at states r) (state_at states p) a g i)
target_half_of al states (Back q p) (Inside r) letter a half g i h =
    absurd (inside_or_back al (slice_get al.acts letter) (state_at states r) a (state_at states q) (state_at states p) a i g)
target_half_of al states (Back q p) (Call r) letter a half g i h =
    absurd (call_or_back al (slice_get al.acts letter) (state_at states r) a (state_at states q) (state_at states p) a i g)
target_half_of al states (Back q p) (Back r o) letter a None g i h = h
target_half_of al states (Back q p) (Back r o) letter a (Some half) g i h = h

target_from : (al : Alphabet) (states : List Scoped) (letter proc : ℕ) (s u : Source) (t : Target) → AgreesTo al states letter proc s → AgreesTo al states letter proc u →
    IsTarget al states letter proc s t → IsTarget al states letter proc u t
target_from al states letter proc s u t a b h = record {
  state = h.state;
  half = target_half_of al states s u letter (state_at states t.state) t.half (a (state_at states t.state) h.state.scoped) (b (state_at states t.state) h.state.scoped) h.half;
}

-- the targets are targets from each source
pub targets_from : (al : Alphabet) (states : List Scoped) (letter proc : ℕ) (s : Source) (sources : List Source) (targets : List Target) → AgreesTo al states letter proc s →
    AllByRecursion (AgreesTo al states letter proc) sources → AllByRecursion (IsTarget al states letter proc s) targets →
    AllByRecursion (λ u. AllByRecursion (IsTarget al states letter proc u) targets) sources
targets_from al states letter proc s sources targets a all h =
    all_later (AgreesTo al states letter proc) (λ u. AllByRecursion (IsTarget al states letter proc u) targets) sources
    (λ u b. all_later (IsTarget al states letter proc s) (IsTarget al states letter proc u) targets (λ t k. target_from al states letter proc s u t a b k) h) all

-- ---- the targets of a letter

-- the target that is a state
target_is : (targets : List Target) (q : ℕ) → Member (map (λ t. t.state) targets) q → (t : Target) × Member targets t × (t.state ≡ q)
target_is [] q m = absurd m
target_is (t ∷ targets) q (inl e) = (t, inl refl, e)
target_is (t ∷ targets) q (inr m) = let r = target_is targets q m in (r.0, inr r.1, r.2)

-- one more target
pub states_more : (targets new : List Target) (t : Target) (found : List ℕ) (i : ℕ) → i < length found → t.state ≡ get_or found i 0 → map (λ x. x.state) targets ≡ take i found →
    new ≡ targets ++ t ∷ [] → map (λ x. x.state) new ≡ take (i + 1) found
states_more targets new t found i l e h is =
    ap (λ (ts : List Target). map (λ x. x.state) ts) is ∙ map-append (λ (x : Target). x.state) targets (t ∷ []) ∙ ap (λ (qs : List ℕ). qs ++ t.state ∷ []) h ∙
    ap (λ (q : ℕ). take i found ++ q ∷ []) e ∙ sym (take_more found i 0 l)

-- a predicate in the scope is one of the targets
targeted : (al : Alphabet) (states : List Scoped) (letter proc : ℕ) (source : Source) (targets : List Target) (after : Scoped) → AreTargets al states letter proc source targets →
    IsScoped al proc after → Member states after → (t : Target) × Member targets t × (state_at states t.state ≡ after)
targeted al states letter proc source targets after h i m =
    let f = in_scope al states proc (map (λ t. t.state) targets) after h.found i m in
    let t = target_is targets f.0 f.1 in
    (t.0, t.1, ap (state_at states) t.2 ∙ f.2)

-- ---- one pair

module _ (al : Alphabet) (states : List Scoped) (source : Source) (letter : ℕ) (after : Scoped) (known old new : List PlainProof) where
  -- the triple is known
  pub pair_known : IsListed known (triple_from states source letter after) → SettlesTriple al (known ++ old) (triple_from states source letter after)
  pair_known l a r = (l.0, member_front known old l.0 l.1, l.2)

  -- its proof is found
  pub pair_found : (p : PlainProof) → p.triple ≡ triple_from states source letter after → new ≡ old ++ p ∷ [] → SettlesTriple al (known ++ new) (triple_from states source letter after)
  pair_found p is e a r = (p, member_rest known new p (subst (λ (l : List PlainProof). Member l p) (sym e) (member_rest old (p ∷ []) p (inl refl))), is)

  -- none is found
  pub pair_refused : (RefutesUncut al (triple_from states source letter after) → ⊥) → SettlesTriple al (known ++ old) (triple_from states source letter after)
  pair_refused n a r = absurd (n r)

-- ---- all pairs of a letter

-- what is settled stays so where more proofs are found
pub targets_later : (al : Alphabet) (states : List Scoped) (letter : ℕ) (known old new : List PlainProof) (targets : List Target) (source : Source) →
    ((p : PlainProof) → Member old p → Member new p) → SettlesTargets al states letter (known ++ old) targets source → SettlesTargets al states letter (known ++ new) targets source
targets_later al states letter known old new targets source more h =
    all_later (λ t. SettlesTriple al (known ++ old) (triple_from states source letter (state_at states t.state)))
    (λ t. SettlesTriple al (known ++ new) (triple_from states source letter (state_at states t.state))) targets
    (λ t s. settled_later al (known ++ old) (known ++ new) (triple_from states source letter (state_at states t.state)) (behind_known known old new more) s) h

pub sources_later : (al : Alphabet) (states : List Scoped) (letter : ℕ) (known old new : List PlainProof) (targets : List Target) (sources : List Source) →
    ((p : PlainProof) → Member old p → Member new p) → AllByRecursion (SettlesTargets al states letter (known ++ old) targets) sources →
    AllByRecursion (SettlesTargets al states letter (known ++ new) targets) sources
sources_later al states letter known old new targets sources more h =
    all_later (SettlesTargets al states letter (known ++ old) targets) (SettlesTargets al states letter (known ++ new) targets) sources
    (λ s k. targets_later al states letter known old new targets s more k) h

-- without a source there is no triple
pub none_from : (al : Alphabet) (states : List Scoped) (letter proc : ℕ) (sources : List Source) (known found : List PlainProof) → AreSources al states letter proc sources → sources ≡ [] →
    SettledBy al states (known ++ found) letter
none_from al states letter proc sources known found s e t is n a r =
    let f = s.all t a is n in
    absurd (subst (λ (l : List Source). Member l f.source) e f.listed)

-- nor without a target
pub none_to : (al : Alphabet) (states : List Scoped) (letter : ℕ) (proofs : List PlainProof) (targets : List Target) (sources : List Source) → targets ≡ [] →
    AllByRecursion (SettlesTargets al states letter proofs targets) sources
none_to al states letter proofs targets [] e = tt
none_to al states letter proofs targets (s ∷ sources) e =
    (subst (λ (ts : List Target). SettlesTargets al states letter proofs ts s) (sym e) tt, none_to al states letter proofs targets sources e)

-- each triple is from one of the sources to one of the targets
pub pairs_settle : (al : Alphabet) (states : List Scoped) (letter proc : ℕ) (sources : List Source) (source : Source) (targets : List Target) (known found : List PlainProof) →
    AreSources al states letter proc sources → AreTargets al states letter proc source targets →
    AllByRecursion (SettlesTargets al states letter (known ++ found) targets) sources → SettledBy al states (known ++ found) letter
pairs_settle al states letter proc sources source targets known found s h settled t is n a r =
    let f = s.all t a is n in
    let k = targeted al states letter proc source targets f.after h f.scoped f.state in
    let from : SettlesTargets al states letter (known ++ found) targets f.source = all_member (SettlesTargets al states letter (known ++ found) targets) sources f.source settled f.listed in
    let one : SettlesTriple al (known ++ found) (triple_from states f.source letter (state_at states k.0.state)) =
    all_member (λ x. SettlesTriple al (known ++ found) (triple_from states f.source letter (state_at states x.state))) targets k.0 from k.1 in
    let same : triple_from states f.source letter (state_at states k.0.state) ≡ t = ap (λ (x : Scoped). triple_from states f.source letter x) k.2 ∙ sym f.is in
    subst (SettlesTriple al (known ++ found)) same one a r

-- ---- all letters

pub number_more : (n : ℕ) (old new : List ℕ) → AreAllBelow n old → new ≡ old ++ n ∷ [] → AreAllBelow (n + 1) new
number_more n old new h e = subst (AreAllBelow (n + 1)) (sym e) (record {
  each = all_push (λ k. k < n + 1) old n (all_later (λ k. k < n) (λ k. k < n + 1) old (λ k l. omega (arith, l)) h.each) (omega arith);
  all = λ k l. elim (below_or_last k n l) [
    | inl b ↦ member_front old (n ∷ []) k (h.all k b)
    | inr s ↦ member_rest old (n ∷ []) k (inl (sym s))
  ];
})

abbrev pub found_in : List (Vec PlainProof Global) → List PlainProof
found_in found = flat_map (λ more. more.items) found

pub found_grounded : (al : Alphabet) (states : List Scoped) (known : List PlainProof) (letters : List ℕ) (found : List (Vec PlainProof Global)) →
    AllZip (λ l more. IsFoundBy al states known l more.items) letters found → AllByRecursion (IsGrounded al states) (found_in found)
found_grounded al states known [] [] h = tt
found_grounded al states known [] (m ∷ found) h = absurd h
found_grounded al states known (l ∷ letters) [] h = absurd h
found_grounded al states known (l ∷ letters) (m ∷ found) h = all_append (IsGrounded al states) m.items (found_in found) h.0.grounded (found_grounded al states known letters found h.1)

found_settles : (al : Alphabet) (states : List Scoped) (known : List PlainProof) (letters : List ℕ) (found : List (Vec PlainProof Global)) (letter : ℕ) →
    AllZip (λ l more. IsFoundBy al states known l more.items) letters found → Member letters letter → SettledBy al states (known ++ found_in found) letter
found_settles al states known [] found letter h m = absurd m
found_settles al states known (l ∷ letters) [] letter h m = absurd h
found_settles al states known (l ∷ letters) (f ∷ found) letter h (inl e) = λ t is n.
    settled_later al (known ++ f.items) (known ++ (f.items ++ found_in found)) t (behind_known known f.items (f.items ++ found_in found) (λ p k. member_front f.items (found_in found) p k))
    (h.0.settled t (is ∙ sym e) n)
found_settles al states known (l ∷ letters) (f ∷ found) letter h (inr m) = λ t is n.
    settled_later al (known ++ found_in found) (known ++ (f.items ++ found_in found)) t
    (behind_known known (found_in found) (f.items ++ found_in found) (λ p k. member_rest f.items (found_in found) p k)) (found_settles al states known letters found letter h.1 m t is n)

pub all_settled : (al : Alphabet) (states : List Scoped) (known all : List PlainProof) (n : ℕ) (letters : List ℕ) (found : List (Vec PlainProof Global)) → AreAllBelow n letters →
    AllZip (λ l more. IsFoundBy al states known l more.items) letters found → all ≡ known ++ found_in found → SettledBelow al states all n
all_settled al states known all n letters found b h e t l names =
    subst (λ (ps : List PlainProof). SettlesTriple al ps t) (sym e) (found_settles al states known letters found (letter_in t) h (b.all (letter_in t) l) t refl names)

-- what holds of all members holds of one that was read
pub all_at : {X : Type 0} (P : X → Type 0) (xs : List X) (i : ℕ) (x : X) → i < length xs → x ≡ get_or xs i x → AllByRecursion P xs → P x
all_at P xs i x l e h = all_member P xs x h (member_at xs i x (got_at xs i x l e))

-- ---- threads

abbrev pub letters_in : Option (Vec ℕ Global) → List ℕ
letters_in None = []
letters_in (Some v) = v.items

-- what each letter finds, where all are values
module _ (P Q : ℕ → Vec PlainProof Global → Type 0) (more : (l : ℕ) (v : Vec PlainProof Global) → P l v → Q l v) where
  found_values : (E : Type 0) (letters : List ℕ) (found : List (Vec PlainProof Global)) → AllZip (λ l (r : Result (Vec PlainProof Global) E). IfOk r (P l)) letters (map Ok found) → AllZip Q letters found
  found_values E [] [] h = tt
  found_values E [] (f ∷ found) h = absurd h
  found_values E (l ∷ letters) [] h = absurd h
  found_values E (l ∷ letters) (f ∷ found) h = (more l f h.0, found_values E letters found h.1)

  pub all_found : {E : Type 0} (before now : Option (Vec ℕ Global)) (letters listed : List ℕ) (tried answers : List (Result (Vec PlainProof Global) E)) (found : List (Vec PlainProof Global)) → before ≡ now →
      letters_in now ≡ letters → listed ≡ letters_in before → AllZip (λ l r. IfOk r (P l)) listed tried → answers ≡ tried → map Ok found ≡ answers → AllZip Q letters found
  all_found {E} before now letters listed tried answers found moved here from h said ends =
      let places : listed ≡ letters = from ∙ ap letters_in moved ∙ here in
      let each : AllZip (λ l r. IfOk r (P l)) letters tried = subst (λ (ls : List ℕ). AllZip (λ l r. IfOk r (P l)) ls tried) places h in
      found_values E letters found (subst (λ (rs : List (Result (Vec PlainProof Global) E)). AllZip (λ l r. IfOk r (P l)) letters rs) (sym (ends ∙ said)) each)
