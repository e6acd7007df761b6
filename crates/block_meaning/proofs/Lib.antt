mod Trees
mod InOrderExamples
mod MeaningExamples
mod AccessExamples
