mod Formed
