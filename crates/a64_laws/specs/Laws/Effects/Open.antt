-- Memory that is open: where it lies in regions outside the guard, and may be written; and the loads and stores that it lets
-- through (this project's own).
use Rattle.std.specs.Prelude.{◌≡◌, ◌≢◌, ℕ, ◌+◌, ◌*◌, ◌%◌, ◌<◌, ◌≤◌, Bool, true, false, ◌&&◌, Some, refl}
use Rattle.std.proofs.Common.{arith, ap, sym, ◌∙◌}
use Rattle.mt_base.specs.Granules.{granule_of}
use Rattle.mt_base.specs.Memory.{is_in_span, is_mapped, is_protected, some_byte, store}
use Rattle.mt_base.specs.Laws.Memory.{every_byte_from, some_byte_none}
use Rattle.mt_base.specs.Pointers.{tag_of, address_of}
use Rattle.a64_code.specs.declared.end.MachineEnd.{MachineEnd}
use Rattle.a64_code.specs.declared.end.MachineEnd.TheVariants.{TagFault}
use Rattle.a64_code.specs.State.{State, with_bytes, with_tags, tagged, advanced}
use Rattle.a64_code.specs.Stepped.{Leads, Ends}
use Rattle.a64_code.specs.Access.{Access, single, pair, tag_store, access_end}
use Rattle.a64_laws.specs.Laws.Effects.Accesses.{IsAdmitted, IsAllowed, IsSize, one_granule, access_end-allowed, access_end-tag}
use Rattle.a64_code.specs.Shape.{Result, Loads, LoadsPair, Stores, StoresPair, StoresTags, Clears, with_result, done}

-- so many bytes from an address on can be read
pub record IsReadable (s : State) (start bytes : ℕ) : Type 0 where
  pub mapped : (a : ℕ) → start ≤ a → a < start + bytes → is_mapped s.regions a ≡ true
  pub unguarded : (a : ℕ) → start ≤ a → a < start + bytes → is_in_span s.guard a ≡ false

-- they can be read and written
pub record IsOpen (s : State) (start bytes : ℕ) : Type 0 where
  pub readable : IsReadable s start bytes
  pub unprotected : (a : ℕ) → start ≤ a → a < start + bytes → is_protected s.regions a ≡ false

-- the bytes of an access lie among them
pub record IsWithin (a : Access) (start bytes : ℕ) : Type 0 where
  pub from : start ≤ a.start
  pub to : a.start + a.bytes ≤ start + bytes

-- an access that reads is admitted there, and so is one that writes where memory is open
pub in_readable : (s : State) (a : Access) (start bytes : ℕ) → IsReadable s start bytes → IsWithin a start bytes → a.writes ≡ false →
    address_of a.pointer % a.unit ≡ 0 → IsAdmitted s a
in_readable s a start bytes readable within reads aligned = record {
  aligned = aligned;
  unguarded = some_byte_none (is_in_span s.guard) a.start a.bytes
      (λ k h. readable.unguarded (a.start + k) (omega (arith, within.from)) (omega (arith, h, within.to)));
  mapped = every_byte_from (is_mapped s.regions) a.start a.bytes
      (λ k h. readable.mapped (a.start + k) (omega (arith, within.from)) (omega (arith, h, within.to)));
  writable = rw reads refl;
}

pub in_open : (s : State) (a : Access) (start bytes : ℕ) → IsOpen s start bytes → IsWithin a start bytes →
    address_of a.pointer % a.unit ≡ 0 → IsAdmitted s a
in_open s a start bytes memory within aligned = record {
  aligned = aligned;
  unguarded = some_byte_none (is_in_span s.guard) a.start a.bytes
      (λ k h. memory.readable.unguarded (a.start + k) (omega (arith, within.from)) (omega (arith, h, within.to)));
  mapped = every_byte_from (is_mapped s.regions) a.start a.bytes
      (λ k h. memory.readable.mapped (a.start + k) (omega (arith, within.from)) (omega (arith, h, within.to)));
  writable = by_writes a.writes;
}
  where
    none : some_byte (is_protected s.regions) a.start a.bytes ≡ false
    none = some_byte_none (is_protected s.regions) a.start a.bytes
        (λ k h. memory.unprotected (a.start + k) (omega (arith, within.from)) (omega (arith, h, within.to)))

    by_writes : (writes : Bool) → (writes && some_byte (is_protected s.regions) a.start a.bytes) ≡ false
    by_writes true = none
    by_writes false = refl

-- what is not judged by its tag is allowed where it is admitted
pub allowed_unchecked : (s : State) (a : Access) → IsAdmitted s a → a.checked ≡ false → IsAllowed s a
allowed_unchecked s a admitted unchecked =
    record { admitted = admitted; tags = λ checked. absurd (let e : true ≡ false = sym checked ∙ unchecked in cc) }

-- a load or a store of one register is allowed where the granule has the pointer's tag
pub allowed_single : (s : State) (n pointer : ℕ) (writes checked : Bool) → IsSize n → IsAdmitted s (single n pointer writes checked) →
    s.tag (granule_of (address_of pointer)) ≡ tag_of pointer → IsAllowed s (single n pointer writes checked)
allowed_single s n pointer writes checked size admitted same = record {
  admitted = admitted;
  tags = λ _. record { first = same; last = ap s.tag (one_granule n (address_of pointer) size admitted.aligned) ∙ same };
}

-- ---- loads and stores that are done

pub loads-done : (a : Access) (r : Result) (s : State) → IsAllowed s a → done (Loads a r) s ≡ Leads (advanced (with_result r s))
loads-done a r s allowed = rw (access_end-allowed s a allowed) refl

pub loads_pair-done : (a : Access) (first second : Result) (s : State) → IsAllowed s a →
    done (LoadsPair a first second) s ≡ Leads (advanced (with_result second (with_result first s)))
loads_pair-done a first second s allowed = rw (access_end-allowed s a allowed) refl

pub stores-done : (n pointer : ℕ) (checked : Bool) (value : ℕ) (s : State) → IsAllowed s (single n pointer true checked) →
    done (Stores n pointer checked value) s ≡ Leads (advanced (with_bytes (store n s.byte (address_of pointer) value) s))
stores-done n pointer checked value s allowed = rw (access_end-allowed s (single n pointer true checked) allowed) refl

pub stores_pair-done : (pointer : ℕ) (checked : Bool) (first second : ℕ) (s : State) → IsAllowed s (pair pointer true checked) →
    done (StoresPair pointer checked first second) s
    ≡ Leads (advanced (with_bytes (store 8 (store 8 s.byte (address_of pointer) first) (address_of pointer + 8) second) s))
stores_pair-done pointer checked first second s allowed = rw (access_end-allowed s (pair pointer true checked) allowed) refl

-- a store of tags is never judged by tags
pub stores_tags-done : (n pointer tag : ℕ) (s : State) → IsAdmitted s (tag_store n pointer) →
    done (StoresTags n pointer tag) s ≡ Leads (advanced (with_tags (tagged n s.tag (address_of pointer) tag) s))
stores_tags-done n pointer tag s admitted =
    rw (access_end-allowed s (tag_store n pointer) (allowed_unchecked s (tag_store n pointer) admitted refl)) refl

pub clears-done : (n pointer tag : ℕ) (s : State) → IsAdmitted s (tag_store n pointer) →
    done (Clears n pointer tag) s
    ≡ Leads (advanced (with_bytes (store (16 * n) s.byte (address_of pointer) 0) (with_tags (tagged n s.tag (address_of pointer) tag) s)))
clears-done n pointer tag s admitted =
    rw (access_end-allowed s (tag_store n pointer) (allowed_unchecked s (tag_store n pointer) admitted refl)) refl

-- ---- and those that end the run

pub loads-ends : (a : Access) (r : Result) (s : State) (end : MachineEnd) → access_end s a ≡ Some end → done (Loads a r) s ≡ Ends end
loads-ends a r s end ends = rw ends refl

pub stores-ends : (n pointer : ℕ) (checked : Bool) (value : ℕ) (s : State) (end : MachineEnd) →
    access_end s (single n pointer true checked) ≡ Some end →
    done (Stores n pointer checked value) s ≡ Ends end
stores-ends n pointer checked value s end ends = rw ends refl

-- Where nothing but the tag is against it, a load or a store whose base is not SP ends with that fault, and changes nothing.
pub loads-caught : (n pointer : ℕ) (r : Result) (s : State) → IsAdmitted s (single n pointer false true) →
    s.tag (granule_of (address_of pointer)) ≢ tag_of pointer →
    done (Loads (single n pointer false true) r) s
    ≡ Ends (TagFault (address_of pointer) (tag_of pointer) (s.tag (granule_of (address_of pointer))))
loads-caught n pointer r s admitted other =
    loads-ends (single n pointer false true) r s _ (access_end-tag s (single n pointer false true) admitted refl other)

pub stores-caught : (n pointer value : ℕ) (s : State) → IsAdmitted s (single n pointer true true) →
    s.tag (granule_of (address_of pointer)) ≢ tag_of pointer →
    done (Stores n pointer true value) s ≡ Ends (TagFault (address_of pointer) (tag_of pointer) (s.tag (granule_of (address_of pointer))))
stores-caught n pointer value s admitted other =
    stores-ends n pointer true value s _ (access_end-tag s (single n pointer true true) admitted refl other)
