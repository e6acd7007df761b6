-- What is answered where the words could not be had.
use Rattle.mt_pipeline.specs.declared.driver.NoWords.{NoWords}
use Rattle.mt_pipeline.specs.declared.driver.NoWords.TheVariants.{NotText, NoMemory as NoMemoryForWords}
use Rattle.mt_answers.specs.declared.ended.Why.{Why}
use Rattle.mt_answers.specs.declared.ended.Why.TheVariants.{Usage, NoMemory}

abbrev pub why_without_words : NoWords → Why
why_without_words NotText = Usage
why_without_words NoMemoryForWords = NoMemory
