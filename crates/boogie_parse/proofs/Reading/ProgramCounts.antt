-- How many procedures some declarations declare.
use Rattle.std.proofs.Common.{◌≡◌, ℕ, ◌+◌, ◌-◌, ◌<◌, List, [], ◌∷◌, ◌++◌, length, map, take, get_or, refl, sym, arith, zero-add}
use Rattle.std.proofs.lemmas.List.{map-append, take_more}
use Rattle.boogie_tree.specs.declared.tree.Decl.{Decl}
use Rattle.boogie_tree.specs.Tree.{Declaration, Const, Global, Axiom, Declares, Implements}
use Rattle.boogie_tree.specs.View.{declaration}
use Rattle.boogie_parse.specs.Rules.GrammarLimits.{procedures_counted}
use Rattle.boogie_parse.proofs.Reading.ListTurns.{AddsUp}

pub procedures_joined : (xs ys : List Declaration) → procedures_counted (xs ++ ys) ≡ procedures_counted xs + procedures_counted ys
procedures_joined [] ys = sym (zero-add (procedures_counted ys))
procedures_joined (Const x ∷ xs) ys = procedures_joined xs ys
procedures_joined (Global x ∷ xs) ys = procedures_joined xs ys
procedures_joined (Axiom s e ∷ xs) ys = procedures_joined xs ys
procedures_joined (Declares p ∷ xs) ys = let h = procedures_joined xs ys in omega arith
procedures_joined (Implements p ∷ xs) ys = procedures_joined xs ys

pub procedures-add : AddsUp procedures_counted
procedures-add = record { none = refl; joined = procedures_joined }

pub room_more :
    (ds : List Decl) (i most room count : ℕ) (d : Decl) → i < length ds → d ≡ get_or ds i d
    → room ≡ most - procedures_counted (map declaration (take i ds)) → count ≡ procedures_counted (declaration d ∷ [])
    → room - count ≡ most - procedures_counted (map declaration (take (i + 1) ds))
room_more ds i most room count d h e r c =
    let more : procedures_counted (map declaration (take (i + 1) ds)) ≡ procedures_counted (map declaration (take i ds)) + procedures_counted (declaration d ∷ []) =
    rw (take_more ds i d h, map-append, ← e) (procedures_joined (map declaration (take i ds)) (declaration d ∷ [])) in
    omega arith

pub no_procedures : (most : ℕ) (ds : List Decl) → ds ≡ [] → most ≡ most - procedures_counted (map declaration ds)
no_procedures most ds e = rw e (let h : most ≡ most - 0 = omega arith in h)

pub map-appended : (xs ys zs : List Decl) → zs ≡ xs ++ ys → map declaration zs ≡ map declaration xs ++ map declaration ys
map-appended xs ys zs e = rw (e, map-append) refl

pub room_appended :
    (most room after : ℕ) (xs ys zs us : List Decl) → after ≡ room - procedures_counted (map declaration us) → us ≡ ys
    → room ≡ most - procedures_counted (map declaration xs) → zs ≡ xs ++ ys → after ≡ most - procedures_counted (map declaration zs)
room_appended most room after xs ys zs us a u r e =
    let more : procedures_counted (map declaration zs) ≡ procedures_counted (map declaration xs) + procedures_counted (map declaration ys) =
    rw (map-appended xs ys zs e) (procedures_joined (map declaration xs) (map declaration ys)) in
    let b : after ≡ room - procedures_counted (map declaration ys) = rw (← u) a in
    omega arith
