mod LruLemmas
