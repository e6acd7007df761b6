-- Runs that do the same with more work: where they do not stop for want of it, and else they have put a part of what they put with more.
use Rattle.std.proofs.Common.{◌≡◌, refl, sym, subst, ap, ◌∙◌, arith, ℕ, zero, suc, ◌+◌, Bool, true, false, List, [], ◌∷◌, ◌++◌, map}
use Rattle.std.proofs.Common.{append_assoc, append-nil, Option, Some, None}
use Rattle.c_ast.specs.declared.token.Span.{Span}
use Rattle.block_meaning.specs.declared.reason.Reason.{Reason}
use Rattle.block_meaning.specs.declared.access.Access.{Access}
use Rattle.block_meaning.specs.Blocks.{Block}
use Rattle.block_meaning.specs.Running.{Divide, Deep, More, State, Result, Goes, Stops, Run, gives, stops, goes_on, and_then, one_of}
use Rattle.block_meaning.specs.Running.{unit_then, choice, stuck, with_some, by_blocks, with_blocks, all_of, Context, undefined}

-- a list begins with another
pub record Begins (xs ys : List ℕ) : Type 0 where
  pub rest : List ℕ
  pub is : ys ≡ xs ++ rest

pub begins-itself : (xs : List ℕ) → Begins xs xs
begins-itself xs = record { rest = []; is = sym (append-nil xs) }

pub begins-through : {xs ys zs : List ℕ} → Begins xs ys → Begins ys zs → Begins xs zs
begins-through {xs = xs} first second = record {
  rest = first.rest ++ second.rest;
  is = second.is ∙ ap (λ l. l ++ second.rest) first.is ∙ append_assoc xs first.rest second.rest;
}

abbrev pub state_after : {A : Type 0} → Result A → State
state_after (Goes a now) = now
state_after (Stops why now) = now

abbrev pub output_after : {A : Type 0} → Result A → List ℕ
output_after r = (state_after r).output

-- with so much more work
abbrev pub with_work : ℕ → State → State
with_work more now = record now { work = now.work + more }

-- what a run gives with so much more work, by what it gives without
abbrev pub Grown : {A : Type 0} → ℕ → Result A → Result A → Type 0
Grown more (Goes a now) r = r ≡ Goes a (with_work more now)
Grown more (Stops More now) r = Begins now.output (output_after r)
Grown more (Stops why now) r = r ≡ Stops why (with_work more now)

pub record Steady {A : Type 0} (m : Run A) : Type 0 where
  -- what was put stays
  pub puts : (now : State) → Begins now.output (output_after (m now))
  pub grows : (more : ℕ) (now : State) → Grown more (m now) (m (with_work more now))

pub steady-gives : {A : Type 0} (a : A) → Steady (gives a)
steady-gives a = record { puts = λ now. begins-itself now.output; grows = λ more now. refl }

pub steady-divide : {A : Type 0} → Steady (stops {A = A} Divide)
steady-divide = record { puts = λ now. begins-itself now.output; grows = λ more now. refl }

pub steady-deep : {A : Type 0} → Steady (stops {A = A} Deep)
steady-deep = record { puts = λ now. begins-itself now.output; grows = λ more now. refl }

pub steady-stuck : {A : Type 0} → Steady (stuck {A = A})
steady-stuck = record { puts = λ now. begins-itself now.output; grows = λ more now. refl }

pub steady-undefined : {A : Type 0} (here : Context) (span : Span) (access : Option Access) (why : Reason) →
    Steady (undefined {A = A} here span access why)
steady-undefined here span access why = record { puts = λ now. begins-itself now.output; grows = λ more now. refl }

pub steady-with_blocks : (f : List Block → List Block) → Steady (with_blocks f)
steady-with_blocks f = record { puts = λ now. begins-itself now.output; grows = λ more now. refl }

-- ---- one after another

puts_on : {A B : Type 0} {f : A → Run B} → ((a : A) → Steady (f a)) → (xs : List ℕ) (r : Result A) → Begins xs (output_after r) →
    Begins xs (output_after (goes_on r f))
puts_on each xs (Goes a now) begins = begins-through begins ((each a).puts now)
puts_on each xs (Stops why now) begins = begins

grows_on : {A B : Type 0} {f : A → Run B} → ((a : A) → Steady (f a)) → (more : ℕ) (r s : Result A) → Grown more r s →
    Grown more (goes_on r f) (goes_on s f)
grows_on {f = f} each more (Goes a now) s grown =
    subst (λ t. Grown more (f a now) (goes_on t f)) (sym grown) ((each a).grows more now)
grows_on {f = f} each more (Stops More now) s grown = puts_on each now.output s grown
grows_on {f = f} each more (Stops _ now) s grown = ap (λ t. goes_on t f) grown

pub steady-then : {A B : Type 0} {m : Run A} {f : A → Run B} → Steady m → ((a : A) → Steady (f a)) → Steady (and_then m f)
steady-then {m = m} first each = record {
  puts = λ now. puts_on each now.output (m now) (first.puts now);
  grows = λ more now. grows_on each more (m now) (m (with_work more now)) (first.grows more now);
}

one_puts : {A : Type 0} {m : Run A} → Steady m → (work : ℕ) (now : State) → Begins now.output (output_after (one_of work m now))
one_puts steady zero now = begins-itself now.output
one_puts steady (suc rest) now = steady.puts (record now { work = rest })

one_grows : {A : Type 0} {m : Run A} → Steady m → (work more : ℕ) (now : State) →
    Grown more (one_of work m now) (one_of (work + more) m (with_work more now))
one_grows steady zero more now = one_puts steady (0 + more) (with_work more now)
one_grows {m = m} steady (suc rest) more now =
    let next : suc rest + more ≡ suc (rest + more) = omega arith in
    subst (λ work. Grown more (m (record now { work = rest })) (one_of work m (with_work more now))) (sym next)
    (steady.grows more (record now { work = rest }))

pub steady-unit : {A : Type 0} {m : Run A} → Steady m → Steady (unit_then m)
steady-unit steady = record {
  puts = λ now. one_puts steady now.work now;
  grows = λ more now. one_grows steady now.work more now;
}

pub steady-choice : {A : Type 0} {m n : Run A} (b : Bool) → Steady m → Steady n → Steady (choice b m n)
steady-choice true holds fails = record { puts = λ now. holds.puts now; grows = λ more now. holds.grows more now }
steady-choice false holds fails = record { puts = λ now. fails.puts now; grows = λ more now. fails.grows more now }

pub steady-some : {A B : Type 0} (a : Option A) {f : A → Run B} → ((a : A) → Steady (f a)) → Steady (with_some a f)
steady-some None each = steady-stuck
steady-some (Some a) each = each a

pub steady-blocks : {A : Type 0} {f : List Block → Run A} → ((blocks : List Block) → Steady (f blocks)) → Steady (by_blocks f)
steady-blocks each = record { puts = λ now. (each now.blocks).puts now; grows = λ more now. (each now.blocks).grows more now }

pub steady-all : {A B : Type 0} {f : B → Run A} → ((b : B) → Steady (f b)) → (bs : List B) → Steady (all_of (map f bs))
steady-all each [] = steady-gives []
steady-all each (b ∷ bs) = steady-then (each b) (λ a. steady-then (steady-all each bs) (λ as'. steady-gives (a ∷ as')))
