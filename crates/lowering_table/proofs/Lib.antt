mod ParsedNames
mod CallerLemmas
