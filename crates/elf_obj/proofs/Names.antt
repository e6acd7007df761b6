-- One symbol more of those whose names are looked for again.
use Rattle.std.proofs.Common.{◌≡◌, ℕ, ◌+◌, ◌<◌, ◌≤◌, Bool, true, false, List, [], ◌∷◌, ◌++◌, take, drop, refl, sym, ap, ◌∙◌, arith}
use Rattle.std.specs.Prelude.{◌&&◌, ◌||◌, ◌==◌, not, cond, if◌then◌else◌}
use Rattle.std.specs.List.{list_any, list_all}
use Rattle.std.specs.Str.{bytes_eq}
use Rattle.std.proofs.lemmas.Bool.Decides.{nat_tests}
use Rattle.elf_base.specs.Laws.Tests.{both}
use Rattle.elf_obj.specs.declared.parts.Symbol.{Symbol}
use Rattle.elf_obj.specs.declared.sizes.Sizes.{Sizes}
use Rattle.elf_obj.specs.Rules.{is_new, has_place, symbol_keeps}
use Rattle.elf_obj.specs.ObjectFault.{is_symbol, symbol_spot}
use Rattle.elf_obj.specs.Repeats.{is_seen_as, first_repeat}

pub new-step : (ss : List Symbol) (i : ℕ) (s : Symbol) → drop i ss ≡ s ∷ drop (i + 1) ss → take (i + 1) ss ≡ take i ss ++ s ∷ []
    → is_new (take i ss) s ≡ true → first_repeat i (take i ss) (drop i ss) ≡ first_repeat (i + 1) (take (i + 1) ss) (drop (i + 1) ss)
new-step ss i s front more new =
    let rest : List Symbol = drop (i + 1) ss in
    ap (first_repeat i (take i ss)) front
    ∙ ap (λ (b : Bool). if b then first_repeat (i + 1) (take i ss ++ s ∷ []) rest else i) new
    ∙ ap (λ (l : List Symbol). first_repeat (i + 1) l rest) (sym more)

pub old-step : (ss : List Symbol) (i : ℕ) (s : Symbol) → drop i ss ≡ s ∷ drop (i + 1) ss → is_new (take i ss) s ≡ false
    → first_repeat i (take i ss) (drop i ss) ≡ i
old-step ss i s front old =
    ap (first_repeat i (take i ss)) front
    ∙ ap (λ (b : Bool). if b then first_repeat (i + 1) (take i ss ++ s ∷ []) (drop (i + 1) ss) else i) old

repeats-behind : (k : ℕ) (earlier ss : List Symbol) → k ≤ first_repeat k earlier ss
repeats-behind k earlier [] = omega arith
repeats-behind k earlier (s ∷ ss) = chosen (is_new earlier s) (repeats-behind (k + 1) (earlier ++ s ∷ []) ss)
  where
    chosen : (b : Bool) → k + 1 ≤ first_repeat (k + 1) (earlier ++ s ∷ []) ss
        → k ≤ (if b then first_repeat (k + 1) (earlier ++ s ∷ []) ss else k)
    chosen true h = omega (arith, h)
    chosen false h = omega arith

pub other : (i n : ℕ) → i < n → (i == n) ≡ false
other i n h = grind (arith, nat_tests)

same : (i n : ℕ) → n ≡ i → (i == n) ≡ true
same i n h = grind (arith, nat_tests)

-- the symbol of the turn is new exactly where it is not the first that is not
pub new-is : (ss : List Symbol) (i repeat : ℕ) (s : Symbol) → drop i ss ≡ s ∷ drop (i + 1) ss → take (i + 1) ss ≡ take i ss ++ s ∷ []
    → first_repeat i (take i ss) (drop i ss) ≡ repeat → not (i == repeat) ≡ is_new (take i ss) s
new-is ss i repeat s front more h = chosen (is_new (take i ss) s) refl
  where
    chosen : (b : Bool) → is_new (take i ss) s ≡ b → not (i == repeat) ≡ b
    chosen true e =
        let behind = repeats-behind (i + 1) (take (i + 1) ss) (drop (i + 1) ss) in
        ap not (other i repeat (omega (arith, behind, new-step ss i s front more e, h)))
    chosen false e = ap not (same i repeat (sym h ∙ old-step ss i s front e))

-- a symbol that is as it should be is new
pub symbol-new : (file : List ℕ) (z : Sizes) (at place : ℕ) (earlier : List Symbol) (s : Symbol)
    → is_symbol file z (symbol_spot at place earlier) s ≡ true
    → is_new earlier s ≡ true
unfolding is_symbol symbol_keeps
symbol-new file z at place earlier s h =
    let keeps = (both _ (symbol_keeps z earlier s) h).1 in
    (both _ (is_new earlier s) (both _ (has_place z s.home s) keeps).0).1

-- ---- the names that were seen

pub any-snoc : {A : Type 0} (p : A → Bool) (xs : List A) (y : A) → list_any p (xs ++ y ∷ []) ≡ (list_any p xs || p y)
any-snoc p [] y = chosen (p y)
  where
    chosen : (b : Bool) → (b || false) ≡ b
    chosen true = refl
    chosen false = refl
any-snoc p (x ∷ xs) y = chosen (p x) (any-snoc p xs y)
  where
    chosen : (b : Bool) → list_any p (xs ++ y ∷ []) ≡ (list_any p xs || p y)
        → (b || list_any p (xs ++ y ∷ [])) ≡ ((b || list_any p xs) || p y)
    chosen true h = refl
    chosen false h = h

-- one symbol more that is seen under its name
pub seen-more : (ss : List Symbol) (i : ℕ) (s : Symbol) (name key : List ℕ) (old new : Bool) → take (i + 1) ss ≡ take i ss ++ s ∷ []
    → s.local ≡ false
    → key ≡ s.name → old ≡ list_any (is_seen_as name) (take i ss) → new ≡ cond (bytes_eq key name) true old
    → new ≡ list_any (is_seen_as name) (take (i + 1) ss)
seen-more ss i s name key old new more global is was now =
    let here : is_seen_as name s ≡ bytes_eq s.name name = ap (λ (l : Bool). not l && bytes_eq s.name name) global in
    let all : list_any (is_seen_as name) (take (i + 1) ss) ≡ (list_any (is_seen_as name) (take i ss) || is_seen_as name s) =
    ap (list_any (is_seen_as name)) more ∙ any-snoc (is_seen_as name) (take i ss) s in
    now ∙ ap (λ (k : List ℕ). cond (bytes_eq k name) true old) is ∙ chosen (bytes_eq s.name name) old
    ∙ ap (λ (b : Bool). b || bytes_eq s.name name) was ∙ ap (λ (b : Bool). list_any (is_seen_as name) (take i ss) || b) (sym here) ∙ sym all
  where
    chosen : (b o : Bool) → cond b true o ≡ (o || b)
    chosen true true = refl
    chosen true false = refl
    chosen false true = refl
    chosen false false = refl

-- one that is not
pub seen-same : (ss : List Symbol) (i : ℕ) (s : Symbol) (name : List ℕ) (old : Bool) → take (i + 1) ss ≡ take i ss ++ s ∷ []
    → s.local ≡ true
    → old ≡ list_any (is_seen_as name) (take i ss) → old ≡ list_any (is_seen_as name) (take (i + 1) ss)
seen-same ss i s name old more local was =
    let here : is_seen_as name s ≡ false = ap (λ (l : Bool). not l && bytes_eq s.name name) local in
    let all : list_any (is_seen_as name) (take (i + 1) ss) ≡ (list_any (is_seen_as name) (take i ss) || is_seen_as name s) =
    ap (list_any (is_seen_as name)) more ∙ any-snoc (is_seen_as name) (take i ss) s in
    was ∙ sym (chosen (list_any (is_seen_as name) (take i ss)))
    ∙ ap (λ (b : Bool). list_any (is_seen_as name) (take i ss) || b) (sym here) ∙ sym all
  where
    chosen : (o : Bool) → (o || false) ≡ o
    chosen true = refl
    chosen false = refl

-- whether it is new is whether its name was added
pub new-as : (earlier : List Symbol) (s : Symbol) (has added : Bool) → s.local ≡ false → has ≡ list_any (is_seen_as s.name) earlier
    → added ≡ not has
    → is_new earlier s ≡ added
new-as earlier s has added global is not-has =
    ap (λ (l : Bool). l || not (list_any (is_seen_as s.name) earlier)) global ∙ ap not (sym is) ∙ sym not-has

pub new-local : (earlier : List Symbol) (s : Symbol) → s.local ≡ true → is_new earlier s ≡ true
new-local earlier s local = ap (λ (l : Bool). l || not (list_any (is_seen_as s.name) earlier)) local

-- whether all so far are local
pub locals-step : (ss : List Symbol) (i : ℕ) (s : Symbol) (all both : Bool) → take (i + 1) ss ≡ take i ss ++ s ∷ []
    → all ≡ list_all (λ e. e.local) (take i ss)
    → both ≡ (all && s.local) → both ≡ list_all (λ e. e.local) (take (i + 1) ss)
locals-step ss i s all both more was now =
    now ∙ ap (λ (b : Bool). b && s.local) was ∙ sym (snoc (take i ss)) ∙ ap (list_all (λ (e : Symbol). e.local)) (sym more)
  where
    chosen : (b rest all : Bool) → rest ≡ (all && s.local) → (b && rest) ≡ ((b && all) && s.local)
    chosen true rest all h = h
    chosen false rest all h = refl

    snoc : (xs : List Symbol) → list_all (λ e. e.local) (xs ++ s ∷ []) ≡ (list_all (λ e. e.local) xs && s.local)
    snoc [] = last s.local
      where
        last : (b : Bool) → (b && true) ≡ (true && b)
        last true = refl
        last false = refl
    snoc (x ∷ xs) = chosen x.local (list_all (λ (e : Symbol). e.local) (xs ++ s ∷ [])) (list_all (λ (e : Symbol). e.local) xs) (snoc xs)
