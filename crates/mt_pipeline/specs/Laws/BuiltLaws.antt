-- The image that texts are built into is that of the one constant which the one text returns.
use Rattle.std.proofs.Common.{◌≡◌, ℕ, List, [], ◌∷◌, ◌++◌, refl, sym, ap, ◌∙◌, subst}
use Rattle.elf_image.specs.Constant.{constant_image}
use Rattle.elf_image.specs.Image.{Image}
use Rattle.mt_compile.specs.Compiled.{Compiled}
use Rattle.mt_compile.specs.Source.{ReturnsConstant, ReturnsOnly}
use Rattle.mt_pipeline.specs.Agrees.{Return}
use Rattle.mt_pipeline.specs.Built.{AreCompiled, Builds, Linked, image_with}

-- there is one text, and the image is that of its constant
pub record IsOfConstant (texts : List (List ℕ)) (image : Image) : Type 0 where
  pub text : List ℕ
  pub one : texts ≡ text ∷ []
  pub constant : ℕ
  pub returns : ReturnsOnly text constant
  pub is : image ≡ constant_image constant

no_more : {A : Type 0} (x y : A) (xs : List A) → x ∷ xs ≡ y ∷ [] → xs ≡ []
no_more x y xs e = cc

head_same : {A : Type 0} (x y : A) (xs ys : List A) → x ∷ xs ≡ y ∷ ys → x ≡ y
head_same x y xs ys e = cc

no_texts : (texts : List (List ℕ)) → AreCompiled texts [] → texts ≡ []
no_texts [] compiled = refl
no_texts (t ∷ ts) compiled = absurd compiled

pub of_constant : (texts objects : List (List ℕ)) (image : Image) → AreCompiled texts objects → Linked objects image →
    IsOfConstant texts image
of_constant [] [] image compiled linked = let e = linked.one in absurd (cc)
of_constant [] (o ∷ os) image compiled linked = absurd compiled
of_constant (t ∷ ts) [] image compiled linked = absurd compiled
of_constant (t ∷ ts) (o ∷ os) image compiled linked =
    let last : os ≡ [] = no_more o linked.words os linked.one in
    let rest : ts ≡ [] = no_texts ts (subst (λ w. AreCompiled ts w) last compiled.1) in
    let words : o ≡ linked.words = head_same o linked.words os [] linked.one in
    record {
      text = t;
      one = ap (λ w. t ∷ w) rest;
      constant = compiled.0.constant;
      returns = compiled.0.returns;
      is = linked.is ∙ ap image_with (sym words ∙ compiled.0.is);
    }

-- a constant that the texts return is that one
pub only_constant : (texts : List (List ℕ)) (image : Image) (n : ℕ) (of : IsOfConstant texts image) → Return texts n → n ≡ of.constant
only_constant texts image n of r =
    of.returns.only n (subst (λ t. ReturnsConstant t n) (head_same r.text of.text [] [] (sym r.one ∙ of.one)) r.returns)

-- what a text returns, alone
pub return_one : (text : List ℕ) (n : ℕ) → ReturnsConstant text n → Return (text ∷ []) n
return_one text n returns = record { text = text; one = refl; returns = returns }

-- of a text alone, the image is that of any constant which it returns
pub image_of_one : (text : List ℕ) (image : Image) (n : ℕ) → Builds (text ∷ []) image → ReturnsConstant text n → image ≡ constant_image n
image_of_one text image n builds returns =
    let of = of_constant (text ∷ []) builds.objects image builds.compiled builds.linked in
    of.is ∙ ap constant_image (sym (only_constant (text ∷ []) image n of (return_one text n returns)))

-- ---- texts in turn

pub compiled_more : (texts objects : List (List ℕ)) (text words : List ℕ) → AreCompiled texts objects → Compiled text words →
    AreCompiled (texts ++ text ∷ []) (objects ++ words ∷ [])
compiled_more [] [] text words compiled last = (last, tt)
compiled_more [] (o ∷ os) text words compiled last = absurd compiled
compiled_more (t ∷ ts) [] text words compiled last = absurd compiled
compiled_more (t ∷ ts) (o ∷ os) text words compiled last = (compiled.0, compiled_more ts os text words compiled.1 last)
