-- What is proved of a node of an expression: that it is safe with so many levels below it, and gives what fits.
use Rattle.std.proofs.Common.{◌≡◌, ℕ, zero, suc, ◌≤◌, ◌<◌, arith, true}
use Rattle.std.proofs.Common.{List, map}
use Rattle.c_ast.specs.declared.token.Span.{Span}
use Rattle.c_type_base.specs.declared.ty.Ty.{Ty}
use Rattle.c_type_base.specs.declared.expr.TExpr.{TExpr}
use Rattle.c_type_base.specs.declared.expr.TNode.{out-TNode}
use Rattle.c_type_base.specs.Types.{is_integer}
use Rattle.block_meaning.specs.declared.value.Pointer.{Pointer}
use Rattle.block_meaning.specs.Expressions.{NodeLayer, Site, value_of}
use Rattle.block_meaning.specs.Expressions.{place_node, value_node, parts_at}
use Rattle.block_meaning.specs.ExpressionsInOrder.{Scope}
use Rattle.block_meaning.specs.Laws.Progress.Fits.{Fits, PlaceWithin}
use Rattle.block_meaning.specs.Laws.Progress.Fits.{number-fits}
use Rattle.block_meaning.specs.Laws.Progress.Safe.{Safe, safe-gives}
use Rattle.block_meaning.specs.Laws.Progress.Safe.{safe-unit}
use Rattle.block_meaning.specs.Laws.Progress.Scenes.{Passed, Scene, here_of}
use Rattle.block_meaning.specs.Running.{unit_gives, all_of}
use Rattle.block_meaning.specs.declared.value.Value.TheVariants.{Number}

-- where a node stands, with so many levels below it
abbrev pub site_of : {s : Scope} {n w : ℕ} → Scene s n w → ℕ → Span → Span → Ty → Site
site_of scene levels span around t = record {
  calls = scene.calls;
  here = here_of scene;
  parts = parts_at scene.calls (here_of scene) levels;
  span = span;
  around = around;
  ty = t;
}

-- it gives a value of its type, with so many levels below it at least
pub record ValueSafe (s : Scope) (t : Ty) (node : NodeLayer) : Type 0 where
  pub depth : ℕ
  pub safe : {n w : ℕ} (scene : Scene s n w) (levels : ℕ) → depth ≤ levels → (span around : Span) →
      Safe n w (value_node (site_of scene levels span around t) node) (Fits t)

pub record PlaceSafe (s : Scope) (t : Ty) (node : NodeLayer) : Type 0 where
  pub depth : ℕ
  pub safe : {n w : ℕ} (scene : Scene s n w) (levels : ℕ) → depth ≤ levels → (span around : Span) →
      Safe n w (place_node (site_of scene levels span around t) node) PlaceWithin

pub record ArgumentsSafe (s : Scope) (es : List TExpr) (ts : List Ty) : Type 0 where
  pub depth : ℕ
  pub safe : {n w : ℕ} (scene : Scene s n w) (levels : ℕ) → depth ≤ levels →
      Safe n w (all_of (map (value_of (parts_at scene.calls (here_of scene) levels)) es)) (Passed ts)

abbrev pub ValuePart : Scope → TExpr → Type 0
ValuePart s e = ValueSafe s e.ty (out-TNode e.node)

abbrev pub PlacePart : Scope → TExpr → Type 0
PlacePart s e = PlaceSafe s e.ty (out-TNode e.node)

-- a part, one level below
pub part-value : {s : Scope} {n w : ℕ} (e : TExpr) (part : ValuePart s e) (scene : Scene s n w) (levels : ℕ) → part.depth < levels →
    (around : Span) → Safe n w ((parts_at scene.calls (here_of scene) levels).value_in around e) (Fits e.ty)
unfolding out-TNode
part-value e part scene zero deep around = absurd (omega (arith, deep))
part-value e part scene (suc levels) deep around = part.safe scene levels (omega (arith, deep)) e.span around

pub part-place : {s : Scope} {n w : ℕ} (e : TExpr) (part : PlacePart s e) (scene : Scene s n w) (levels : ℕ) → part.depth < levels →
    Safe n w ((parts_at scene.calls (here_of scene) levels).place e) PlaceWithin
unfolding out-TNode
part-place e part scene zero deep = absurd (omega (arith, deep))
part-place e part scene (suc levels) deep = part.safe scene levels (omega (arith, deep)) e.span e.span

-- there is a block
pub some-block : {s : Scope} {n w : ℕ} → Scene s n w → 0 < n
some-block {s = s} scene = let units = s.program.units in omega (arith, scene.enough)

pub number_given : {n w : ℕ} (t : Ty) (k : ℕ) → is_integer t ≡ true → Safe n w (unit_gives (Number k)) (Fits t)
number_given t k is = safe-unit (λ v less. safe-gives (Number k) (λ j more. number-fits t j (Number k) is tt))

pub place_given : {n w : ℕ} (p : Pointer) → p.block < n → Safe n w (unit_gives p) PlaceWithin
place_given p within = safe-unit (λ v less. safe-gives p (λ j more. omega (arith, within, more)))
