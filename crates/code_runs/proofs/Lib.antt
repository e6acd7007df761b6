mod Countdown
mod CountdownSteps
mod CountdownRuns
mod Called
mod Beside
mod Pointed
mod Guarded
mod Repeated
