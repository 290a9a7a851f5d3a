mod Asking
mod Reading
mod RightsNames
mod RuleMembers
mod Texts
