mod HintedNames
