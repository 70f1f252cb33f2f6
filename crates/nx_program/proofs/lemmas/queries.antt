-- What the options of `log` ask for.
pub mod QueryAsked
pub mod TimesNamed
