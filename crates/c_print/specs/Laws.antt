-- Laws for later proofs.
pub mod BareLaws
pub mod BareTwice
pub mod SeenTokens
pub mod Again
pub mod TypesAgain
pub mod ExpressionsAgain
pub mod DeclaratorsAgain
pub mod ObjectsAgain
pub mod StructsAgain
pub mod ParametersAgain
pub mod StatementsAgain
pub mod ProgramAgain
