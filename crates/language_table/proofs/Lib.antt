mod ParsedNames
