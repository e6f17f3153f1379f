mod AsciiKeys
