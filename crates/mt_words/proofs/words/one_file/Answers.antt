use Rattle.mt_words.proofs.Clauses.{first_text, other_texts}
use Rattle.mt_words.proofs.words.one_file.Goals as goal

pub returns-then-listed-eq1 : goal.returns-then-listed-eq1
returns-then-listed-eq1 c =
    record {
      some = first_text c.args.files.items c.as_slice-listed.result.now _ c.as_slice-listed.ensures.value c.if-listed-eq1.true;
      none = tt;
    }

pub returns : goal.returns
returns c =
    record {
      some = tt;
      none = λ file is. other_texts c.args.files.items c.as_slice-listed.result.now file c.as_slice-listed.ensures.value
          c.if-listed-eq1.false is;
    }
