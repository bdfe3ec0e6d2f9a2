mod Octets
