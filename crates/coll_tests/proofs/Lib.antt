mod SpelledRows
