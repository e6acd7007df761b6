use Rattle.std.proofs.Common.{◌≡◌, ◌/◌, ◌%◌, [], ◌∷◌, ◌++◌, ap, refl, sym, ◌∙◌}
use Rattle.elf_image.specs.Constant.{movz_word, movk_word, svc_word}
use Rattle.mt_compile.specs.Laws.CodeRows.{constant_code-short, constant_code-long}
use Rattle.mt_compile.proofs.Encoded.{movz_word-is, movk_word-is, svc_word-is}
use Rattle.mt_compile.proofs.code.words_of.Goals as goal
use Rattle.mt_compile.proofs.code.words_of.Goals.{then-n-gt65535+in_ok-put-2, else-n-gt65535}

pub returns : goal.returns
returns c =
    let first : c.put.new.words.items ≡ movz_word (c.args.n % 65536) ∷ [] =
    c.in_ok-put.ensures.2 ∙ rw (c.new-words.ensures.items, movz_word-is c.in_ok-put.ensures.0 _ c.in_ok-put.ensures.1) refl in
    let last : c.put-2.new.words.items ≡ c.if-n-gt65535.words.items ++ svc_word ∷ [] =
    c.in_ok-put-3.ensures.2 ∙ ap (λ w. c.if-n-gt65535.words.items ++ w ∷ [])
    (svc_word-is c.in_ok-put-3.ensures.0 c.in_ok-put-3.ensures.1) in
    elim c.if-n-gt65535.branch [
      | then-n-gt65535+in_ok-put-2 w ↦
          let second : w.put-then-n-gt65535.new.words.items ≡ movz_word (c.args.n % 65536) ∷ movk_word (c.args.n / 65536) ∷ [] =
          w.in_ok-put-2.ensures.2 ∙ rw (first, movk_word-is w.in_ok-put-2.ensures.0 _ w.in_ok-put-2.ensures.1) refl in
          last ∙ ap (λ v. v.items ++ svc_word ∷ []) w.words-is ∙ ap (λ items. items ++ svc_word ∷ []) second
          ∙ sym (constant_code-long c.args.n w.if-n-gt65535.true)
      | else-n-gt65535 w ↦
          last ∙ ap (λ v. v.items ++ svc_word ∷ []) w.words-is ∙ ap (λ items. items ++ svc_word ∷ []) first
          ∙ sym (constant_code-short c.args.n w.if-n-gt65535.false)
    ]
