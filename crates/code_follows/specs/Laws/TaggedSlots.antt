-- Tagged slots of a frame, the tag that memory has at a place of it, and the locals of a call that live (this project's own).
use Rattle.std.specs.Prelude.{◌≡◌, ℕ, zero, suc, ◌+◌, ◌%◌, ◌<◌, Bool, true, false, ◌||◌, nat_eq, List, [], ◌∷◌, slice_get, Some, refl}
use Rattle.std.specs.Prelude.{if◌then◌else◌}
use Rattle.std.proofs.Common.{arith, ap, sym, subst, ◌∙◌}
use Rattle.std.proofs.lemmas.Bool.{eqb-true}
use Rattle.std.proofs.lemmas.Bool.Decides.{nat_tests}
use Rattle.mt_base.specs.Tags.{slot_tag}
use Rattle.c_type_base.specs.Laws.LayoutLaws.{round_up-multiple}
use Rattle.c_type_base.specs.Layout.{round_up}
use Rattle.c_type_base.specs.Sizes.{size}
use Rattle.c_type_base.specs.declared.typed.LocalInfo.{LocalInfo}
use Rattle.c_type_base.specs.declared.typed.StructInfo.{StructInfo}
use Rattle.c_type_base.specs.declared.typed.TFunction.{TFunction}
use Rattle.slot_safety.specs.declared.kind.Kind.{Kind}
use Rattle.slot_safety.specs.declared.kind.Kind.TheVariants.{Safe, Tagged}
use Rattle.slot_safety.specs.Kinds.{among, is_tagged, kind_by}
use Rattle.frame_layout.specs.declared.frame.Slot.{Slot}
use Rattle.frame_layout.specs.declared.placed.Part.{Part}
use Rattle.frame_layout.specs.Frames.{slot_of, slots_from, safe_step, tagged_step, count_step, first_safe, first_tagged, frame}
use Rattle.frame_layout.specs.Neighbours.{has_tagged, tag_among}
use Rattle.frame_layout.specs.Parts.{part_of, parts_from, parts}
use Rattle.frame_layout.specs.Scopes.{is_inner}
use Rattle.frame_layout.specs.StatementNeeds.{stmt_need}
use Rattle.block_meaning.specs.Blocks.{Block}
use Rattle.block_meaning.specs.declared.kind.Kind.{Kind as BlockKind}
use Rattle.block_meaning.specs.declared.kind.Kind.TheVariants.{Local}
use Rattle.code_relation.specs.Ends.{local_of_call, live_locals}
use Rattle.gen_laws.specs.Laws.Numbers.{some_same}

-- ---- the bytes of tagged slots

-- whole granules, of which the last has a byte of the local
pub record TaggedBytes (s : Slot) (bytes : ℕ) : Type 0 where
  pub whole : s.bytes % 16 ≡ 0
  pub close : s.bytes < bytes + 16

round_up_close : (n : ℕ) → round_up n 16 < n + 16
round_up_close n = omega arith

bytes_here : (safe tagged count : ℕ) (p : Part) (kind : Kind) → (slot_of safe tagged count p kind).kind ≡ Tagged →
    TaggedBytes (slot_of safe tagged count p kind) p.bytes
bytes_here safe tagged count p Safe is = absurd (cc)
bytes_here safe tagged count p Tagged is = record { whole = round_up-multiple p.bytes 16; close = round_up_close p.bytes }

bytes_of : (structs : List StructInfo) (f : TFunction) (safe tagged count j : ℕ) (ls : List LocalInfo) (k : ℕ) (l : LocalInfo) (s : Slot) →
    slice_get ls k ≡ Some l → slice_get (slots_from safe tagged count (parts_from structs f j ls)) k ≡ Some s → s.kind ≡ Tagged →
    TaggedBytes s (size structs l.ty)
bytes_of structs f safe tagged count j [] k l s there is tag = absurd (cc)
bytes_of structs f safe tagged count j (x ∷ xs) zero l s there is tag =
    let p : Part = part_of structs x (kind_by (is_tagged structs f j)) (is_inner f j) in
    let same : slot_of safe tagged count p p.kind ≡ s = some_same is in
    subst (λ (m : LocalInfo). TaggedBytes s (size structs m.ty)) (some_same there)
    (subst (λ (y : Slot). TaggedBytes y p.bytes) same (bytes_here safe tagged count p p.kind (ap (λ y. y.kind) same ∙ tag)))
bytes_of structs f safe tagged count j (x ∷ xs) (suc k) l s there is tag =
    let p : Part = part_of structs x (kind_by (is_tagged structs f j)) (is_inner f j) in
    bytes_of structs f (safe_step safe p p.kind) (tagged_step tagged p p.kind) (count_step count p.kind) (suc j) xs k l s there is tag

pub tagged_bytes : (structs : List StructInfo) (f : TFunction) (k : ℕ) (l : LocalInfo) (s : Slot) → slice_get f.locals k ≡ Some l →
    slice_get (frame structs f).slots k ≡ Some s → s.kind ≡ Tagged → TaggedBytes s (size structs l.ty)
tagged_bytes structs f k l s there is tag =
    bytes_of structs f (first_safe (stmt_need f.body)) (first_tagged (stmt_need f.body) (parts structs f)) 0 0 f.locals k l s there is tag

-- ---- the tag of memory

-- it is that of the slot that has the place, where its local lives; or no tagged slot has it
pub data TagThere (choice : ℕ) (live : List ℕ) (p k : ℕ) (slots : List Slot) : Type 0 where
  owner : (j : ℕ) (s : Slot) → slice_get slots j ≡ Some s → has_tagged s p ≡ true →
      tag_among choice live p k slots ≡ (if among (k + j) live then slot_tag choice s.index else 0) → TagThere choice live p k slots
  nobody : ((j : ℕ) (s : Slot) → slice_get slots j ≡ Some s → has_tagged s p ≡ false) → tag_among choice live p k slots ≡ 0 →
      TagThere choice live p k slots

pub tag_there_is : (choice : ℕ) (live : List ℕ) (p k : ℕ) (slots : List Slot) → TagThere choice live p k slots
tag_there_is choice live p k [] = nobody (λ j s is. absurd (cc)) refl
tag_there_is choice live p k (x ∷ xs) = by_test (has_tagged x p) refl (tag_there_is choice live p (k + 1) xs)
  where
    passed : has_tagged x p ≡ false → tag_among choice live p k (x ∷ xs) ≡ tag_among choice live p (k + 1) xs
    passed is = rw is refl

    by_rest : has_tagged x p ≡ false → TagThere choice live p (k + 1) xs → TagThere choice live p k (x ∷ xs)
    by_rest is (owner j s there has tag) =
        owner (suc j) s there has (passed is ∙ tag
        ∙ ap (λ (n : ℕ). if among n live then slot_tag choice s.index else 0) (let e : k + 1 + j ≡ k + suc j = omega arith in e))
    by_rest is (nobody none tag) = nobody each (passed is ∙ tag)
      where
        each : (j : ℕ) (s : Slot) → slice_get (x ∷ xs) j ≡ Some s → has_tagged s p ≡ false
        each zero s there = subst (λ y. has_tagged y p ≡ false) (some_same there) is
        each (suc j) s there = none j s there

    by_test : (b : Bool) → has_tagged x p ≡ b → TagThere choice live p (k + 1) xs → TagThere choice live p k (x ∷ xs)
    by_test true is rest =
        owner 0 x refl is ((rw is refl) ∙ ap (λ (n : ℕ). if among n live then slot_tag choice x.index else 0)
        (let e : k ≡ k + 0 = omega arith in e))
    by_test false is rest = by_rest is rest

-- ---- the locals that live

pub record LivesLocal (bs : List Block) (call k : ℕ) : Type 0 where
  pub number : ℕ
  pub block : Block
  pub is : slice_get bs number ≡ Some block
  pub live : block.live ≡ true
  pub kind_is : block.kind ≡ Local call k

further : {bs : List Block} {call k : ℕ} (b : Block) → LivesLocal bs call k → LivesLocal (b ∷ bs) call k
further b l = record { number = suc l.number; block = l.block; is = l.is; live = l.live; kind_is = l.kind_is }

pub among_live : (call k : ℕ) (bs : List Block) → among k (live_locals call bs) ≡ true → LivesLocal bs call k
among_live call k [] is = absurd (cc)
among_live call k (b ∷ bs) is = by_live b.live refl (λ rest. further b (among_live call k bs rest)) is
  where
    by_first : (c j : ℕ) → b.live ≡ true → b.kind ≡ Local c j → c ≡ call → (same : Bool) → nat_eq k j ≡ same →
        (among k (live_locals call bs) ≡ true → LivesLocal (b ∷ bs) call k) → (same || among k (live_locals call bs)) ≡ true →
        LivesLocal (b ∷ bs) call k
    by_first c j live kind this true test behind is = record {
      number = 0;
      block = b;
      is = refl;
      live = live;
      kind_is = kind ∙ ap (λ n. Local n j) this ∙ ap (λ n. Local call n) (sym (eqb-true k j test));
    }
    by_first c j live kind this false test behind is = behind is

    by_call : (c j : ℕ) → b.live ≡ true → b.kind ≡ Local c j → (same : Bool) → nat_eq c call ≡ same →
        (among k (live_locals call bs) ≡ true → LivesLocal (b ∷ bs) call k) →
        among k (if same then j ∷ live_locals call bs else live_locals call bs) ≡ true → LivesLocal (b ∷ bs) call k
    by_call c j live kind true test behind is = by_first c j live kind (eqb-true c call test) (nat_eq k j) refl behind is
    by_call c j live kind false test behind is = behind is

    by_kind : (kind : BlockKind) → b.live ≡ true → b.kind ≡ kind →
        (among k (live_locals call bs) ≡ true → LivesLocal (b ∷ bs) call k) →
        among k (local_of_call call kind (live_locals call bs)) ≡ true → LivesLocal (b ∷ bs) call k
    by_kind (Local c j) live kind behind is = by_call c j live kind (nat_eq c call) refl behind is
    by_kind _ live kind behind is = behind is

    by_live : (live : Bool) → b.live ≡ live → (among k (live_locals call bs) ≡ true → LivesLocal (b ∷ bs) call k) →
        among k (if live then local_of_call call b.kind (live_locals call bs) else live_locals call bs) ≡ true →
        LivesLocal (b ∷ bs) call k
    by_live true live behind is = by_kind b.kind live refl behind is
    by_live false live behind is = behind is

same_number : (k : ℕ) → nat_eq k k ≡ true
same_number k = grind (arith, nat_tests)

or_second : (a b : Bool) → b ≡ true → (a || b) ≡ true
or_second true b is = refl
or_second false b is = is

pub live_among : (call k : ℕ) (bs : List Block) (m : ℕ) (b : Block) → slice_get bs m ≡ Some b → b.live ≡ true → b.kind ≡ Local call k →
    among k (live_locals call bs) ≡ true
live_among call k [] m b is live kind = absurd (cc)
live_among call k (x ∷ xs) zero b is live kind =
    let same : x ≡ b = some_same is in
    let test : nat_eq call call ≡ true = same_number call in
    rw (ap (λ y. y.live) same ∙ live, ap (λ y. y.kind) same ∙ kind, test, same_number k) refl
live_among call k (x ∷ xs) (suc m) b is live kind = behind x.live x.kind (live_among call k xs m b is live kind)
  where
    by_call : (j : ℕ) (same : Bool) → among k (live_locals call xs) ≡ true →
        among k (if same then j ∷ live_locals call xs else live_locals call xs) ≡ true
    by_call j true rest = or_second (nat_eq k j) (among k (live_locals call xs)) rest
    by_call j false rest = rest

    by_kind : (kind : BlockKind) → among k (live_locals call xs) ≡ true → among k (local_of_call call kind (live_locals call xs)) ≡ true
    by_kind (Local c j) rest = by_call j (nat_eq c call) rest
    by_kind _ rest = rest

    behind : (live : Bool) (kind : BlockKind) → among k (live_locals call xs) ≡ true →
        among k (if live then local_of_call call kind (live_locals call xs) else live_locals call xs) ≡ true
    behind true kind rest = by_kind kind rest
    behind false kind rest = rest
