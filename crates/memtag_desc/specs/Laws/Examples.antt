-- Descriptors worked out by hand, and faults.
use Rattle.std.proofs.Common.{ℕ, ◌<◌, [], ◌∷◌, refl, arith}
use Rattle.memtag_desc.specs.declared.interval.Interval.{Interval}
use Rattle.memtag_desc.specs.declared.refusal.DescRefusal.TheVariants.{Cut, LongForm}
use Rattle.memtag_desc.specs.Numbers.{last, more, IsNumber}
use Rattle.memtag_desc.specs.Descriptors.{small, large, nothing, next, Describes}
use Rattle.memtag_desc.specs.Faults.{first, form, cut, long, HasFault}

abbrev pub interval : ℕ → ℕ → Interval
interval start bytes = record { start = start; bytes = bytes }

-- a number of one byte
one : (n : ℕ) → n < 128 → IsNumber n (n ∷ [])
one n lt = record { shortest = last n lt; few = omega arith }

-- 16 bytes at 0x3000, the 32 bytes behind them, and the 128 bytes behind these
pub three_intervals : Describes (interval 0x3000 16 ∷ interval 0x3010 32 ∷ interval 0x3030 128 ∷ [])
    (0x81 ∷ 0x30 ∷ 0x02 ∷ 0x00 ∷ 0x07 ∷ [])
three_intervals =
    next 0 0x300 1 _ (0x81 ∷ 0x30 ∷ []) _ (small 0x300 1 _ (omega arith) (omega arith)
    (record { shortest = more 1 0x30 _ (omega arith) (omega arith) (last 0x30 (omega arith)); few = omega arith })) (omega arith)
    (next 0x3010 0 2 _ (2 ∷ []) _ (small 0 2 _ (omega arith) (omega arith) (one 2 (omega arith))) (omega arith)
    (next 0x3030 0 8 _ (0 ∷ 7 ∷ []) [] (large 0 8 (0 ∷ []) (7 ∷ []) (omega arith) (one 0 (omega arith)) (one 7 (omega arith)))
    (omega arith) (nothing 0x30b0)))

-- three granules have a short form
pub short_size : HasFault (0 ∷ 2 ∷ []) (LongForm 1)
short_size = record {
  intervals = [];
  before = [];
  rest = 0 ∷ 2 ∷ [];
  parts = refl;
  some = omega arith;
  described = nothing 0;
  breaks = form 0 2 (0 ∷ []) (2 ∷ []) [] (one 0 (omega arith)) (one 2 (omega arith)) (omega arith);
}

-- a last byte that says nothing
pub long_number : HasFault (0x81 ∷ 0x80 ∷ 0 ∷ []) (LongForm 0)
long_number = record {
  intervals = [];
  before = [];
  rest = 0x81 ∷ 0x80 ∷ 0 ∷ [];
  parts = refl;
  some = omega arith;
  described = nothing 0;
  breaks = first _ (LongForm 0) (long (0x81 ∷ 0x80 ∷ []) [] (omega arith) (omega arith) (omega arith, (omega arith, tt)));
}

-- a number without its last byte
pub cut_number : HasFault (0x81 ∷ []) (Cut 1)
cut_number = record {
  intervals = [];
  before = [];
  rest = 0x81 ∷ [];
  parts = refl;
  some = omega arith;
  described = nothing 0;
  breaks = first _ (Cut 1) (cut (0x81 ∷ []) (omega arith) (omega arith, tt));
}

-- no bytes describe no intervals
pub no_bytes : Describes [] []
no_bytes = nothing 0
