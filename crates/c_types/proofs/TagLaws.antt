-- Where the walk stands behind a tag, and behind the body of one.
use Rattle.std.proofs.Common.{◌≡◌, refl, sym, ◌∙◌, ap, subst, ℕ, suc, ◌+◌, ◌<◌, Bool, true, false, not, cond, List, [], ◌∷◌, ◌++◌, map}
use Rattle.std.proofs.Common.{length, slice_get, slice_set, Option, Some, None, arith}
use Rattle.std.specs.Prelude.{leb, min}
use Rattle.std.specs.List.{position_from}
use Rattle.std.specs.Str.{bytes_eq}
use Rattle.std.proofs.lemmas.Bool.Decides.{nat_tests}
use Rattle.std.proofs.lemmas.Slice.Eq.{bytes_eq-Decides}
use Rattle.c_ast.specs.declared.declaration.Decl.{Decl}
use Rattle.c_ast.specs.declared.declaration.StructDecl.{StructDecl}
use Rattle.c_type_base.specs.declared.typed.MemberInfo.{MemberInfo}
use Rattle.c_type_base.specs.declared.typed.StructInfo.{StructInfo}
use Rattle.c_type_base.specs.Sizes.{largest}
use Rattle.c_type_base.specs.Layout.{struct_size}
use Rattle.c_type_expr.specs.declared.walk.Walk.{Walk}
use Rattle.c_type_expr.specs.Environment.{Env, tag_number}
use Rattle.c_type_expr.specs.Faults.{rule, broken}
use Rattle.c_type_expr.specs.Walked.{blamed, Walked}
use Rattle.c_types.specs.Standing.{Stands}
use Rattle.c_types.specs.Structs.{Member, ty_in, greatest, capped, members, struct_with, tag_alone, has_body, body_rules}
use Rattle.c_types.specs.Units.{Judgement, with_outcome, with_faults, with_tag, known_members, with_body}
use Rattle.c_types.specs.Laws.StandingLaws.{stands_outcome, known_at, stands_faults, stands_structs}

pub structs_at : (w : Walk) (j : Judgement) → Stands w j → w.structs ≡ j.env.structs
structs_at w j stands = ap (λ (e : Env). e.structs) stands.env_is

-- ---- tags

behind_one : (b : Bool) (n k : ℕ) (o p : Option ℕ) → cond b (Some n) o ≡ None → (o ≡ None → p ≡ Some k) →
    cond b (Some n) p ≡ Some k
behind_one true n k o p is next = absurd (cc)
behind_one false n k o p is next = next is

found_last : (test : StructInfo → Bool) (from : ℕ) (xs : List StructInfo) (x : StructInfo) → position_from test from xs ≡ None →
    test x ≡ true → position_from test from (xs ++ x ∷ []) ≡ Some (from + length xs)
found_last test from [] x none is =
    let same : from ≡ from + 0 = omega arith in
    ap (λ b. cond b (Some from) None) is ∙ ap (λ (n : ℕ). Some n) same
found_last test from (y ∷ ys) x none is =
    let same : from + 1 + length ys ≡ from + length (y ∷ ys) = omega arith in
    behind_one (test y) from (from + length (y ∷ ys)) (position_from test (from + 1) ys)
    (position_from test (from + 1) (ys ++ x ∷ [])) none
    (λ o. found_last test (from + 1) ys x o is ∙ ap (λ (n : ℕ). Some n) same)

-- a tag that was not declared has the next number
pub tag_is : (structs : List StructInfo) (tag : List ℕ) → tag_number structs tag ≡ None →
    Some (length structs) ≡ tag_number (structs ++ tag_alone tag ∷ []) tag
tag_is structs tag none =
    let same : 0 + length structs ≡ length structs = omega arith in
    sym (found_last (λ info. bytes_eq info.name tag) 0 structs (tag_alone tag) none ((bytes_eq-Decides tag tag).1 refl)
    ∙ ap (λ (n : ℕ). Some n) same)

pub tag_pushed : (structs more : List StructInfo) (tag name : List ℕ) (ms : List MemberInfo) (n : ℕ) → None ≡ tag_number structs tag →
    more ≡ structs ++ record { name = name; members = ms; bytes = 0; align = 1 } ∷ [] → name ≡ tag → ms ≡ [] → n ≡ length structs →
    Some n ≡ tag_number more tag
tag_pushed structs more tag name ms n none is named bare count =
    ap (λ (k : ℕ). Some k) count ∙ tag_is structs tag (sym none)
    ∙ sym (ap (λ (s : List StructInfo). tag_number s tag) is
    ∙ (λ i. tag_number (structs ++ record { name = named i; members = bare i; bytes = 0; align = 1 } ∷ []) tag))

within_one : (b : Bool) (from n left : ℕ) (o : Option ℕ) → cond b (Some from) o ≡ Some n → (o ≡ Some n → n < from + 1 + left) →
    n < from + suc left
within_one true from n left o is next = let same : from ≡ n = cc in omega arith
within_one false from n left o is next = let below : n < from + 1 + left = next is in omega arith

found_within : (test : StructInfo → Bool) (from n : ℕ) (xs : List StructInfo) → position_from test from xs ≡ Some n → n < from + length xs
found_within test from n [] is = absurd (cc)
found_within test from n (x ∷ xs) is =
    within_one (test x) from n (length xs) (position_from test (from + 1) xs) is (λ o. found_within test (from + 1) n xs o)

-- and each is within the table
pub tag_within : (structs : List StructInfo) (tag : List ℕ) (n : ℕ) → Some n ≡ tag_number structs tag → n < length structs
tag_within structs tag n is =
    let below : n < 0 + length structs = found_within (λ info. bytes_eq info.name tag) 0 n structs (sym is) in
    omega arith

pub tag_there : (w : Walk) (j : Judgement) (tag : List ℕ) (n : ℕ) → Stands w j → Some n ≡ tag_number w.structs tag →
    Stands w (with_tag j tag (tag_number j.env.structs tag))
tag_there w j tag n stands is =
    subst (λ (o : Option ℕ). Stands w (with_tag j tag o)) (is ∙ ap (λ s. tag_number s tag) (structs_at w j stands)) stands

pub tag_new : (w w1 : Walk) (j : Judgement) (tag : List ℕ) → Stands w j → tag_number w.structs tag ≡ None →
    w1 ≡ record w { structs = w.structs ++ tag_alone tag ∷ [] } → Stands w1 (with_tag j tag (tag_number j.env.structs tag))
tag_new w w1 j tag stands none is =
    let same = structs_at w j stands in
    subst (λ (o : Option ℕ). Stands w1 (with_tag j tag o)) (sym none ∙ ap (λ s. tag_number s tag) same)
    (stands_structs (j.env.structs ++ tag_alone tag ∷ []) w w1 j stands
    (is ∙ ap (λ s. record w { structs = s ++ tag_alone tag ∷ [] }) same))

-- ---- bodies

small_by : (g l n : ℕ) → l < g → leb (min n g) l ≡ leb n l
small_by g l n within = grind (arith, nat_tests)

-- a size that stops at the greatest number is as small as the size itself
pub capped_small : (n : ℕ) → leb (capped n) largest ≡ leb n largest
capped_small n = small_by greatest largest n (omega arith)

-- a body: its members, its two rules, and then the struct of the tag
pub body_stands : (d : StructDecl) (number : ℕ) (ds : List Decl) (ms : List Member) (info : StructInfo) (new small : Bool)
    (w w1 w2 w3 w4 : Walk) → Walked (members [] ds) w w1 (Some ms) → w2 ≡ record w1 { locals = [] } →
    info ≡ struct_with w2.structs d.name ms → new ≡ not (has_body (slice_get w2.structs number)) → small ≡ leb info.bytes largest →
    w3 ≡ blamed w2 (broken d.span (rule 10 new ∷ rule 17 small ∷ [])) →
    w4 ≡ record w3 { structs = slice_set w3.structs number info } →
    (j : Judgement) → Stands w j → Stands w4 (with_body j d (Some number) ds)
body_stands d number ds ms info new small w w1 w2 w3 w4 walked leaves info_is new_is small_is asked changed j stands =
    let o = members [] ds j.env in
    let found = known_members o.known in
    let read : Stands w2 (with_outcome j o) = stands_outcome (members [] ds) w w1 w2 j (Some ms) stands walked leaves in
    let same : w2.structs ≡ j.env.structs = structs_at w2 (with_outcome j o) read in
    let there : ms ≡ found = ap known_members (known_at (members [] ds) w w1 j (Some ms) stands walked) in
    let made : info ≡ struct_with j.env.structs d.name found = info_is ∙ (λ i. struct_with (same i) d.name (there i)) in
    let fresh : new ≡ not (has_body (slice_get j.env.structs number)) = new_is ∙ ap (λ s. not (has_body (slice_get s number))) same in
    let fits : small ≡ leb (struct_size j.env.structs (map ty_in found)) largest =
    small_is ∙ ap (λ (x : StructInfo). leb x.bytes largest) made
    ∙ capped_small (struct_size j.env.structs (map ty_in found)) in
    let faults = broken d.span (body_rules j.env.structs number found) in
    let blames : Stands w3 (with_faults (with_outcome j o) faults) =
    stands_faults faults w2 w3 (with_outcome j o) read
    (asked ∙ (λ i. blamed w2 (broken d.span (rule 10 (fresh i) ∷ rule 17 (fits i) ∷ [])))) in
    let still : w3.structs ≡ j.env.structs = structs_at w3 (with_faults (with_outcome j o) faults) blames in
    stands_structs (slice_set j.env.structs number (struct_with j.env.structs d.name found)) w3 w4
    (with_faults (with_outcome j o) faults) blames
    (changed ∙ (λ i. record w3 { structs = slice_set (still i) number (made i) }))
