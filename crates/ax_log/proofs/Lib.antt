mod CommitSteps
mod FormSteps
mod RootSteps
mod WalkSteps
mod OpenSteps
