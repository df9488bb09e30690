mod CaseTokens
mod Cases
mod DeclarationCases
